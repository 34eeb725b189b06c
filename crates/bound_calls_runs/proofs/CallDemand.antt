-- Demand 3 of handlers that call: the theory of routines, for the emulated machine.
use mathlib.Core.Path.{◌≡◌, refl, sym, ap, ◌∙◌}
use mathlib.Core.Bool.{Bool, true, false}
use mathlib.Core.List.{List, [], ◌∷◌, ◌++◌}
use Prim.Native.Nat.{ℕ, suc, ◌+◌, ◌≤◌, ◌<◌}
use native.Mathlib.Omega.{arith}
use lib.ListN.{length}
use Rattle.device.specs.declared.Device.{Device}
use Rattle.device.specs.declared.Options.{Options}
use Rattle.frame.specs.declared.Pins.{Pins}
use Rattle.record.specs.declared.Machine.{Machine}
use Rattle.step.specs.Step.{step_of}
use Rattle.run.specs.Run.{run_of}
use Rattle.run.proofs.Rest.{run_next}
use Rattle.routines.specs.Calling.{Flow}
use Rattle.routines.specs.Shape.{Small, Widens}
use Rattle.routines.specs.Answer.{Judged, HasBound}
use Rattle.routines.specs.Runs as runs
use Rattle.routines.specs.Runs.{Standard}
use Rattle.routines.proofs.Ending.{runs-end}
use Rattle.routines.proofs.Shallow.{plain-runs-end}
use Rattle.bound_flow.specs.Flow.{address_of, is_known, start_of}
use Rattle.bound_runs.specs.Handler.{Enters, Returns, Ends, AllInRange}
use Rattle.bound_runs.proofs.Standing.{address_place}
use Rattle.bound_calls.specs.CallFlow.{call_node_of, call_flow, call_cycles}
use Rattle.bound_calls.proofs.Shape.{call-node-good, flow-small, flow_widens, AfterCall, after_call, unknown_of}
use Rattle.bound_calls_runs.specs.CallHandler.{SparesStack, ReturnsWithin, Demand3WithCalls, Demand3AtDepth0}
use Rattle.bound_calls_runs.proofs.Levels.{kept_level}
use Rattle.bound_calls_runs.proofs.CallSteps.{Shown, emulated, At, one_step}

-- both places after a call are at one address, and the first has SF unknown
pub standard : (d : Device) (rom : ℕ → ℕ) → ((at : ℕ) → rom at < 256) → (start : ℕ) → Standard (call_flow d rom start) 16384 (call_cycles d rom) address_of
unfolding call_flow call_cycles
standard d rom bytes start = record { costs = λ v l a b. (call-node-good d rom bytes v l).pos a b; one_address = λ v k. one v (after_call d rom v k); unknown_after = λ v k. none v (after_call d rom v k) }
  where
    one : (v : ℕ) → AfterCall (call_node_of d rom v) → address_of (call_node_of d rom v).other ≡ address_of (call_node_of d rom v).next
    one v a = rw (a.other, a.next) (address_place a.at true ∙ sym (address_place a.at false))

    none : (v : ℕ) → AfterCall (call_node_of d rom v) → is_known (call_node_of d rom v).next ≡ false
    none v a = rw a.next (unknown_of a.at)

-- the frames, each with its range
abbrev pub framed : (d : Device) (frames : List Pins) → AllInRange d frames → List (Shown d)
framed d [] shown = []
framed d (pins ∷ others) shown = record { pins = pins; in_range = shown.0 } ∷ framed d others shown.1

pub framed_length : (d : Device) (frames : List Pins) (shown : AllInRange d frames) → length (framed d frames shown) ≡ length frames
framed_length d [] shown = refl
framed_length d (pins ∷ others) shown = ap suc (framed_length d others shown.1)

module _ (rom : ℕ → ℕ → ℕ) (o : Options) where
  pub spares : (start : ℕ) (m : Machine) (frames : List Pins) (shown : AllInRange o.device frames) → SparesStack rom o start m frames → runs.SparesStack (emulated rom o) start m (framed o.device frames shown)
  unfolding runs.SparesStack
  spares start m [] shown s = tt
  spares start m (pins ∷ others) shown s =
      λ goes. (λ none i a b. kept_level start m (step_of rom o m pins).machine ((s goes).0 none) i a b, spares start (step_of rom o m pins).machine others shown.1 (s goes).1)

-- a run that ends, by its frames; at RTI with SP as at the start
pub record EndsBy (rom : ℕ → ℕ → ℕ) (o : Options) (m : Machine) (sp : ℕ) (frames : List Pins) (steps spent : ℕ) : Type 0 where
  pub before : List Pins
  pub last : Pins
  pub after : List Pins
  pub parts : frames ≡ before ++ (last ∷ after)
  pub count : suc (length before) ≡ steps
  pub completes : (run_of rom o m before).number ≡ 0
  pub ends : Ends rom o (run_of rom o m before).machine last
  pub own : Returns rom o (run_of rom o m before).machine last → (run_of rom o m before).machine.core.ptrs.sp ≡ sp
  pub cycles : (run_of rom o m before).cycles + (step_of rom o (run_of rom o m before).machine last).cycles ≡ spent

module _ (rom : ℕ → ℕ → ℕ) (o : Options) where
  unfoldable pub ends_by : (frames : List Pins) (m : Machine) {sp : ℕ} (shown : AllInRange o.device frames) {k n : ℕ} → runs.EndsAt (emulated rom o) sp m (framed o.device frames shown) k n → EndsBy rom o m sp frames k n
  unfolding run_of
  ends_by [] m {sp = sp} shown {k = k} {n = n} e = elim e [ ]
  ends_by (pins ∷ others) m shown (runs.EndsAt.now e r) = record { before = []; last = pins; after = others; parts = refl; count = refl; completes = refl; ends = e; own = r; cycles = omega arith }
  ends_by (pins ∷ others) m shown (runs.EndsAt.later past e) =
      let q = ends_by others (step_of rom o m pins).machine shown.1 e in
      let next = run_next rom o pins q.before m past.1 in
      record {
        before = pins ∷ q.before;
        last = q.last;
        after = q.after;
        parts = ap (λ (l : List Pins). pins ∷ l) q.parts;
        count = ap suc q.count;
        completes = rw next q.completes;
        ends = rw next q.ends;
        own = rw next q.own;
        cycles = rw next (omega (arith, q.cycles));
      }

-- "the start is known"
pub enters_at : {d : Device} {m : Machine} {p3 start : ℕ} → Enters d m p3 start → At d p3 m (start_of start)
enters_at {start = start} e = record { valid = e.valid; stands = record { at = e.at ∙ sym (address_place start true); running = e.running; ei = e.ei; bank = e.bank; sf = λ k. e.sf } }

module _ (rom : ℕ → ℕ → ℕ) (bytes : (p3 at : ℕ) → rom p3 at < 256) (o : Options) (p3 start : ℕ) (start-lt : start < 8192) where
  abbrev flow : Flow
  flow = call_flow o.device (rom p3) start

  -- what the theory of routines says of the emulated machine, in the run's frames
  returns_within : (m : Machine) (N : ℕ) (frames : List Pins) (shown : AllInRange o.device frames)
      → runs.EndsWithin (emulated rom o) m.core.ptrs.sp m (framed o.device frames shown) N → ReturnsWithin rom o m frames N
  returns_within m N frames shown e =
      let q = ends_by rom o frames m shown e.ends in
      record {
        ends = record { before = q.before; last = q.last; after = q.after; parts = q.parts; steps = omega (arith, q.count, e.steps_most); completes = q.completes; ends = q.ends; cycles = omega (arith, q.cycles, e.spent_most) };
        own = q.own;
      }

  abbrev small : Small flow 16384 2048
  small = flow-small o.device (rom p3) (bytes p3) start start-lt

  abbrev widens : Widens flow
  widens = flow_widens o.device (rom p3) start

  abbrev as-standard : Standard flow 16384 (call_cycles o.device (rom p3)) address_of
  as-standard = standard o.device (rom p3) (bytes p3) start

  module _ {K : ℕ → Bool} {N : ℕ} (judged : Judged flow K) (m : Machine) (enters : Enters o.device m p3 start) (frames : List Pins) (shown : AllInRange o.device frames) (enough : N ≤ length frames) where
    many : N ≤ length (framed o.device frames shown)
    many = omega (arith, framed_length o.device frames shown)

    with-calls : {depth : ℕ} {path deep : List ℕ} → HasBound flow (call_cycles o.device (rom p3)) K N depth path deep → SparesStack rom o m.core.ptrs.sp m frames → ReturnsWithin rom o m frames N
    unfolding call_flow
    with-calls bound spared =
        returns_within m N frames shown
        (runs-end (emulated rom o) flow (call_cycles o.device (rom p3)) address_of (At o.device p3) (one_step rom bytes o p3 start) small widens as-standard judged bound
        m (enters_at enters) (framed o.device frames shown) many (spares rom o m.core.ptrs.sp m frames shown spared))

    at-depth-0 : {path deep : List ℕ} → HasBound flow (call_cycles o.device (rom p3)) K N 0 path deep → ReturnsWithin rom o m frames N
    unfolding call_flow
    at-depth-0 bound =
        returns_within m N frames shown
        (plain-runs-end (emulated rom o) flow (call_cycles o.device (rom p3)) address_of (At o.device p3) (one_step rom bytes o p3 start) small widens as-standard judged bound
        m (enters_at enters) (framed o.device frames shown) many)

pub demand_3_with_calls : Demand3WithCalls
demand_3_with_calls rom bytes o p3 start start-lt K N depth path deep judged bound m enters frames shown enough spared =
    with-calls rom bytes o p3 start start-lt judged m enters frames shown enough bound spared

pub demand_3_at_depth_0 : Demand3AtDepth0
demand_3_at_depth_0 rom bytes o p3 start start-lt K N path deep judged bound m enters frames shown enough =
    at-depth-0 rom bytes o p3 start start-lt judged m enters frames shown enough bound
