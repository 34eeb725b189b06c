-- A step from a record that stands at a place that is not excluded follows the flow rules.
use Rattle.std.specs.Prelude.{Err, Ok}
use mathlib.Core.Path.{◌≡◌, refl, sym, ap, ◌∙◌}
use mathlib.Core.Logic.{◌⊎◌}
use Prim.Native.Nat.{ℕ, ◌≤◌, ◌<◌}
use native.Mathlib.Omega.{arith}
use Rattle.sheet.specs.declared.NoRow.{NoRow}
use Rattle.sheet.specs.Table.{line_at}
use Rattle.sheet.specs.Fields.{field_a}
use Rattle.sheet.specs.Reading.{Read, read_at}
use Rattle.sheet.specs.declared.Insn.{Insn}
use Rattle.frame.specs.declared.Pins.{Pins}
use Rattle.record.specs.Valid.{Valid}
use Rattle.record.specs.declared.Machine.{Machine}
use Rattle.row.specs.Places.{Around}
use Rattle.row.specs.Rows.{Done, executed}
use Rattle.step_look.specs.Look.{is_running, seen}
use Rattle.step_act.specs.Act.{source_of, run_read, run_one, accept_or_run, after_time, act_of}
use Rattle.reader.proofs.Rows.{read-in-fields}
use Rattle.row.proofs.RowsValid.{line_fits}
use Rattle.step.specs.Step.{step_of}
use Rattle.device.specs.declared.Options.{Options}
use Rattle.step.proofs.StepValid.{stop_leaves}
use Rattle.step.proofs.Stepping.{step-runs}
use Rattle.graph.specs.Graph.{GoesOn, Ends as EndsPath, Edge}
use Rattle.bound_flow.specs.Flow.{is_known, node_row, node_read, node_of, flow_graph, flow_cost}
use Rattle.bound_flow.specs.Flow.{Node}
use Rattle.bound_runs.specs.Handler.{Ends}
use Rattle.bound_runs.proofs.Lines.{line_branches}
use Rattle.bound_runs.proofs.Standing.{Standing, stands_after}
use Rattle.bound_runs.proofs.Rows.{RowFollows, stops_named, returns, goes, Allowed, not_allowed, row-follows}

-- it ends the handler, within the place's cycles; or it spends them, and the record stands at a place that follows
pub data StepFollows (rom : ℕ → ℕ → ℕ) (o : Options) (m : Machine) (pins : Pins) (p3 v : ℕ) : Type 0 where
  ends : Ends rom o m pins → (step_of rom o m pins).cycles ≤ flow_cost o.device (rom p3) v → StepFollows rom o m pins p3 v
  goes_on : (w : ℕ) → Edge (flow_graph o.device (rom p3)) v w → (step_of rom o m pins).stop ≡ 0 → (step_of rom o m pins).cycles ≡ flow_cost o.device (rom p3) v → Standing (step_of rom o m pins).machine.core p3 w → StepFollows rom o m pins p3 v

module _ (rom : ℕ → ℕ → ℕ) (o : Options) (m : Machine) (pins : Pins) (p3 v : ℕ) (stands : Standing m.core p3 v) where
  -- the record, having seen the frame
  abbrev pub looking : Machine
  looking = record { core = seen o.device m.core pins; ram = m.ram }

  -- it runs and accepts nothing, in the ROM that P3 shows
  acts-so : act_of rom o looking ≡ after_time (run_read (rom p3) o looking (read_at (rom p3) m.core.pc))
  unfolding act_of accept_or_run source_of run_one
  acts-so = rw (stands.ei, stands.bank)

  step_is : step_of rom o m pins ≡ after_time (run_read (rom p3) o looking (read_at (rom p3) m.core.pc))
  step_is = step-runs rom o m pins (ap is_running stands.running) ∙ acts-so

  module _ (i : Insn) (read : read_at (rom p3) m.core.pc ≡ Ok i) where
    abbrev pub around : Around
    around = record { rom = rom p3; options = o; insn = i }

    -- the row there is executed
    pub row_is : step_of rom o m pins ≡ after_time (executed around looking)
    row_is = step_is ∙ ap (λ (r : Read). after_time (run_read (rom p3) o looking r)) read

    pub stop_is : (step_of rom o m pins).stop ≡ (executed around looking).stop
    stop_is = ap (λ (d : Done). d.stop) row_is

    place_is : node_of o.device (rom p3) v ≡ node_row o.device m.core.pc (is_known v) i (line_at i.row)
    unfolding node_of
    place_is = rw (← stands.at, read)

    -- the cycles of the row are the place's
    spends : (executed around looking).cycles ≡ (node_row o.device m.core.pc (is_known v) i (line_at i.row)).cost → (step_of rom o m pins).cycles ≡ flow_cost o.device (rom p3) v
    unfolding flow_cost
    spends c = ap (λ (d : Done). d.cycles) row_is ∙ c ∙ ap (λ (n : Node). n.cost) (sym place_is)

    lifted : RowFollows (line_at i.row).operation (executed around looking) p3 (node_row o.device m.core.pc (is_known v) i (line_at i.row)) → StepFollows rom o m pins p3 v
    unfolding flow_graph
    lifted (stops_named h) =
        let none : (step_of rom o m pins).cycles ≡ 0 = ap (λ (d : Done). d.cycles) (stop_leaves rom o m pins (λ z. omega (arith, h, stop_is))) in
        ends (Ends.stops (rw stop_is h.0) (rw stop_is h.1)) (omega arith)
    lifted (returns k e z c) =
        ends (Ends.returns (record { running = stands.running; accepts_nothing = stands.ei; insn = i; read = rw stands.bank read; is_rti = e; completes = stop_is ∙ z })) (omega (arith, spends c))
    lifted (goes w k f z c s) = goes_on w (rw place_is (k, f)) (stop_is ∙ z) (spends c) (rw row_is (stands_after (executed around looking).cycles s))

  module _ (bytes : (p3 at : ℕ) → rom p3 at < 256) (valid : Valid o.device m) where
    read-follows : (r : Read) → read_at (rom p3) m.core.pc ≡ r → Allowed (node_read o.device m.core.pc (is_known v) r) → StepFollows rom o m pins p3 v
    read-follows (Ok i) e k =
        let f = read-in-fields (rom p3) m.core.pc i e (bytes p3) in
        let l = line_at i.row in
        lifted i e (row-follows (around i e) l looking valid.core.regs.lr stands.running stands.ei p3 stands.bank (is_known v) stands.sf (field_a l.codes) l.operation (line_fits i.row f.row) (line_branches i.row f.row) k)
    read-follows (Err NoRow.Unassigned) e k = absurd (not_allowed k)
    read-follows (Err NoRow.PastEnd) e k = absurd (not_allowed k)

    pub step_follows : GoesOn (flow_graph o.device (rom p3)) v ⊎ EndsPath (flow_graph o.device (rom p3)) v → StepFollows rom o m pins p3 v
    unfolding flow_graph node_of
    step_follows k = read-follows (read_at (rom p3) m.core.pc) refl (rw stands.at k)
