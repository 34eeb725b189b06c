-- Every run from a record that stands at a reached place ends within what the paths from that place can cost.
use mathlib.Core.Path.{◌≡◌, refl, ap}
use mathlib.Core.List.{List, [], ◌∷◌}
use Prim.Native.Nat.{ℕ, ◌-◌, ◌≤◌, ◌<◌}
use native.Mathlib.Omega.{arith}
use lib.ListN.{length}
use Rattle.device.specs.declared.Device.{Device}
use Rattle.frame.specs.declared.Pins.{Pins}
use Rattle.record.specs.Valid.{Valid}
use Rattle.record.specs.declared.Machine.{Machine}
use Rattle.step.specs.Step.{step_of}
use Rattle.device.specs.declared.Options.{Options}
use Rattle.step.proofs.StepValid.{step-valid}
use Rattle.run.specs.Run.{run_of}
use Rattle.graph.specs.Graph.{Graph, Edge, Reach, Path, sum, AtMost, Sound}
use Rattle.bound_flow.specs.Flow.{flow_graph, flow_cost}
use Rattle.bound_runs.specs.Handler.{EndsWithin, AllInRange}
use Rattle.graph.proofs.Reach.{reach_snoc, reach_inside}
use Rattle.graph.proofs.HasPath.{on_or_ends, has-path}
use Rattle.bound_flow.proofs.Inside.{cost_pos, flow_inside}
use Rattle.bound_runs.proofs.Standing.{Standing}
use Rattle.bound_runs.proofs.Steps.{StepFollows, ends, goes_on, step_follows}
use Rattle.run.proofs.Rest.{run_next}

-- a path costs what its first place does, or more
path_first : {g : Graph} (c : ℕ → ℕ) {v : ℕ} {l : List ℕ} → Path g v l → c v ≤ sum c l
unfolding sum
path_first c (Path.ends k) = omega arith
path_first c (Path.goes e p) = omega arith

-- what the paths from a place can cost leaves, past an edge, what they can cost from there
rest_most : (d : Device) (rom : ℕ → ℕ) (v w B : ℕ) → Edge (flow_graph d rom) v w → AtMost (flow_graph d rom) (flow_cost d rom) v B → AtMost (flow_graph d rom) (flow_cost d rom) w (B - flow_cost d rom v)
unfolding sum
rest_most d rom v w B e most l p = omega (arith, most (v ∷ l) (Path.goes e p))

module _ (rom : ℕ → ℕ → ℕ) (o : Options) (p3 : ℕ) where
  -- the flow of what P3 shows
  abbrev flow : Graph
  flow = flow_graph o.device (rom p3)

  abbrev cost : ℕ → ℕ
  cost = flow_cost o.device (rom p3)

  -- a run that ends, after a step that completes
  ends-later : (m : Machine) (pins : Pins) (others : List Pins) (v B : ℕ) → 0 < cost v → (step_of rom o m pins).stop ≡ 0 → (step_of rom o m pins).cycles ≡ cost v
      → EndsWithin rom o (step_of rom o m pins).machine others (B - cost v) → EndsWithin rom o m (pins ∷ others) B
  ends-later m pins others v B pos z c q =
      let next = run_next rom o pins q.before m z in
      record {
        before = pins ∷ q.before;
        last = q.last;
        after = q.after;
        parts = ap (λ (l : List Pins). pins ∷ l) q.parts;
        steps = omega (arith, q.steps);
        completes = rw next q.completes;
        ends = rw next q.ends;
        cycles = rw next (omega (arith, q.cycles));
      }

  module _ (bytes : (p3 at : ℕ) → rom p3 at < 256) (s : ℕ) (s-lt : s < 16384) (sound : Sound flow s) where
    -- a place that is reached costs something, and no more than the paths from it
    cost-le : (v B : ℕ) → Reach flow s v → AtMost flow cost v B → (0 < cost v) × (cost v ≤ B)
    cost-le v B r most =
        let p = has-path (flow_inside o.device (rom p3) (bytes p3)) s-lt sound v r in
        (cost_pos o.device (rom p3) (bytes p3) v (reach_inside (flow_inside o.device (rom p3) (bytes p3)) r s-lt) (on_or_ends sound v r), omega (arith, path_first cost p.1, most p.0 p.1))

    -- with at most B left to spend, and B frames or more
    pub run-from : (frames : List Pins) (m : Machine) (v B : ℕ) → Valid o.device m → Standing m.core p3 v → Reach flow s v → AtMost flow cost v B
        → AllInRange o.device frames → B ≤ length frames → EndsWithin rom o m frames B
    unfolding run_of
    run-from [] m v B valid stands r most shown enough = absurd (omega (arith, cost-le v B r most))
    run-from (pins ∷ others) m v B valid stands r most shown enough =
        let some = cost-le v B r most in
        go some (step_follows rom o m pins p3 v stands bytes valid (on_or_ends sound v r))
        (λ w e at. run-from others (step_of rom o m pins).machine w (B - cost v) (step-valid rom o m pins valid shown.0 bytes) at (reach_snoc r e) (rest_most o.device (rom p3) v w B e most) shown.1 (omega (arith, some)))
      where
        go : (0 < cost v) × (cost v ≤ B) → StepFollows rom o m pins p3 v
            → ((w : ℕ) → Edge flow v w → Standing (step_of rom o m pins).machine.core p3 w → EndsWithin rom o (step_of rom o m pins).machine others (B - cost v))
            → EndsWithin rom o m (pins ∷ others) B
        go some (ends e c) ih = record { before = []; last = pins; after = others; parts = refl; steps = omega (arith, some); completes = refl; ends = e; cycles = omega (arith, some) }
        go some (goes_on w e z c at) ih = ends-later m pins others v B some.0 z c (ih w e at)
