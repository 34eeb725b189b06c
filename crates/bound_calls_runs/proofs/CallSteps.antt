-- A step from a record that stands at a place that is not excluded follows the flow rules with calls: the one lemma that the theory of routines asks of a machine.
use Rattle.std.specs.Prelude.{Err, Ok}
use mathlib.Core.Path.{◌≡◌, refl, sym, ap, ◌∙◌}
use Prim.Native.Nat.{ℕ, suc, ◌≤◌, ◌<◌}
use native.Mathlib.Omega.{arith}
use Rattle.device.specs.declared.Device.{Device}
use Rattle.device.specs.declared.Options.{Options}
use Rattle.sheet.specs.declared.NoRow.{NoRow}
use Rattle.sheet.specs.Table.{line_at}
use Rattle.sheet.specs.Fields.{field_a}
use Rattle.sheet.specs.Reading.{Read, read_at}
use Rattle.sheet.specs.declared.Insn.{Insn}
use Rattle.reader.proofs.Rows.{read-in-fields}
use Rattle.frame.specs.Frame.{PinsInRange}
use Rattle.frame.specs.declared.Pins.{Pins}
use Rattle.ports.specs.declared.Mode.{Mode}
use Rattle.record.specs.Stack.{pc_at}
use Rattle.record.specs.Valid.{Valid}
use Rattle.record.specs.declared.Core.{Core}
use Rattle.record.specs.declared.Machine.{Machine}
use Rattle.row.specs.Rows.{Done, executed}
use Rattle.row.proofs.RowsValid.{line_fits}
use Rattle.step_act.specs.Act.{core_in, core_after, after_time}
use Rattle.step.specs.Step.{step_of}
use Rattle.step.proofs.StepValid.{step-valid, stop_leaves}
use Rattle.routines.specs.Runs as runs
use Rattle.routines.specs.Runs.{Follows, OneStep}
use Rattle.bound_flow.specs.Flow.{address_of, is_known}
use Rattle.bound_runs.specs.Handler.{Returns, Ends}
use Rattle.bound_runs.proofs.Lines.{line_branches}
use Rattle.bound_runs.proofs.Standing.{Standing, stands_after}
use Rattle.bound_runs.proofs.Steps.{looking, around, row_is}
use Rattle.bound_calls.specs.declared.CallNode.{CallNode}
use Rattle.bound_calls.specs.CallFlow.{call_node_row, call_node_read, call_node_of, call_flow, call_cycles}
use Rattle.bound_calls_runs.specs.CallHandler.{ExecutesCall}
use Rattle.bound_calls_runs.proofs.CallRows.{CallRowFollows, stops, ends, goes_on, calls, comes_back, call-row-follows}

-- a frame of the device
pub record Shown (d : Device) : Type 0 where
  pub pins : Pins
  pub in_range : PinsInRange d pins

-- the emulated machine
abbrev pub emulated : (ℕ → ℕ → ℕ) → Options → runs.Machine
emulated rom o = record {
  State = Machine;
  Frame = Shown o.device;
  step = λ m x. (step_of rom o m x.pins).machine;
  spends = λ m x. (step_of rom o m x.pins).cycles;
  Ends = λ m x. Ends rom o m x.pins;
  Returns = λ m x. Returns rom o m x.pins;
  Completes = λ m x. (step_of rom o m x.pins).stop ≡ 0;
  Calls = λ m x. ExecutesCall rom o m x.pins;
  sp = λ m. m.core.ptrs.sp;
  level = λ m i. pc_at m.ram i;
}

-- a valid record that stands at a place
pub record At (d : Device) (p3 : ℕ) (m : Machine) (v : ℕ) : Type 0 where
  pub valid : Valid d m
  pub stands : Standing m.core p3 v

-- time leaves SP
in_sp : (mode : Mode) (n : ℕ) (c : Core) → (core_in mode n c).ptrs.sp ≡ c.ptrs.sp
in_sp Mode.Running n c = refl
in_sp Mode.Sleep n c = refl
in_sp Mode.Hold n c = refl

after_sp : (n : ℕ) (c : Core) → (core_after n c).ptrs.sp ≡ c.ptrs.sp
unfolding core_after
after_sp n c = in_sp c.mode n c

module _ (rom : ℕ → ℕ → ℕ) (bytes : (p3 at : ℕ) → rom p3 at < 256) (o : Options) (p3 start : ℕ) (m : Machine) (x : Shown o.device) (v : ℕ) (at : At o.device p3 m v) where
  abbrev node : CallNode
  node = call_node_of o.device (rom p3) v

  abbrev Step : Type 0
  Step = Follows (emulated rom o) (call_flow o.device (rom p3) start) (call_cycles o.device (rom p3)) address_of (At o.device p3) m x v

  abbrev after : Done
  after = step_of rom o m x.pins

  pub node-is : (i : Insn) → read_at (rom p3) m.core.pc ≡ Ok i → node ≡ call_node_row o.device m.core.pc (is_known v) i (line_at i.row)
  unfolding call_node_of
  node-is i read = rw (← at.stands.at, read)

  -- a step that executes RTI is at a place of kind 2, one that executes a call at one of kind 3
  rti-kind : Returns rom o m x.pins → node.kind ≡ 2
  rti-kind r = ap (λ (n : CallNode). n.kind) (node-is r.insn (rw at.stands.bank at r.read)) ∙ rw r.is_rti

  pub call-kind : ExecutesCall rom o m x.pins → node.kind ≡ 3
  call-kind r = ap (λ (n : CallNode). n.kind) (node-is r.insn (rw at.stands.bank at r.read)) ∙ rw r.is_call

  not-ended : (node.kind ≡ 2 → ⊥) → after.stop ≡ 0 → Ends rom o m x.pins → ⊥
  not-ended n z (Ends.returns r) = n (rti-kind r)
  not-ended n z (Ends.stops a b) = omega (arith, a, z)

  module _ (i : Insn) (read : read_at (rom p3) m.core.pc ≡ Ok i) where
    abbrev did : Done
    did = executed (around rom o m x.pins p3 v at.stands i read) (looking rom o m x.pins p3 v at.stands)

    is : after ≡ after_time did
    is = row_is rom o m x.pins p3 v at.stands i read

    stopped : after.stop ≡ did.stop
    stopped = ap (λ (d : Done). d.stop) is

    kind-is : {k : ℕ} → (call_node_row o.device m.core.pc (is_known v) i (line_at i.row)).kind ≡ k → node.kind ≡ k
    kind-is e = ap (λ (n : CallNode). n.kind) (node-is i read) ∙ e

    spends : did.cycles ≡ (call_node_row o.device m.core.pc (is_known v) i (line_at i.row)).cost → after.cycles ≡ call_cycles o.device (rom p3) v
    unfolding call_cycles
    spends c = ap (λ (d : Done). d.cycles) is ∙ c ∙ ap (λ (n : CallNode). n.cost) (sym (node-is i read))

    stands-then : {u : ℕ} → Standing did.machine.core p3 u → At o.device p3 after.machine u
    stands-then s = record { valid = step-valid rom o m x.pins at.valid x.in_range bytes; stands = rw is (stands_after did.cycles s) }

    sp-then : after.machine.core.ptrs.sp ≡ did.machine.core.ptrs.sp
    sp-then = ap (λ (d : Done). d.machine.core.ptrs.sp) is ∙ after_sp did.cycles did.machine.core

    ram-then : after.machine.ram ≡ did.machine.ram
    ram-then = ap (λ (d : Done). d.machine.ram) is

    lifted : CallRowFollows (line_at i.row).operation (looking rom o m x.pins p3 v at.stands) did p3 (call_node_row o.device m.core.pc (is_known v) i (line_at i.row)) → Step
    unfolding call_flow
    lifted (stops h) =
        let none : after.cycles ≡ 0 = ap (λ (d : Done). d.cycles) (stop_leaves rom o m x.pins (λ z. omega (arith, h, stopped, z))) in
        Follows.ends (Ends.stops (rw stopped h.0) (rw stopped h.1)) rti-kind (omega (arith, none))
    lifted (ends k e z c) =
        Follows.ends (Ends.returns (record { running = at.stands.running; accepts_nothing = at.stands.ei; insn = i; read = rw at.stands.bank read; is_rti = e; completes = stopped ∙ z })) rti-kind (omega (arith, spends c))
    lifted (goes_on w k e z c s sp) =
        let n = kind-is k in
        Follows.goes {w = w} n (rw (node-is i read) e) (not-ended (λ q. omega (arith, n, q)) (stopped ∙ z), stopped ∙ z) (λ r. omega (arith, n, call-kind r)) (spends c) (stands-then s) (sp-then ∙ sp)
    lifted (calls k z c s sp back kept) =
        let n = kind-is k in
        Follows.calls n (not-ended (λ q. omega (arith, n, q)) (stopped ∙ z), stopped ∙ z) (spends c)
        (rw (node-is i read) (stands-then s)) (ap suc sp-then ∙ sp) (rw (sp-then, ram-then, node-is i read) back) (λ l h. rw ram-then (kept l h))
    lifted (comes_back k z c there sp) =
        let n = kind-is k in
        Follows.returns n (not-ended (λ q. omega (arith, n, q)) (stopped ∙ z), stopped ∙ z) (λ r. omega (arith, n, call-kind r)) (spends c)
        (λ w here knows. stands-then (there w here (λ e. at.stands.sf (knows e)))) (sp-then ∙ sp)

  read-follows : (r : Read) → read_at (rom p3) m.core.pc ≡ r → 1 ≤ (call_node_read o.device m.core.pc (is_known v) r).kind → Step
  read-follows (Ok i) e k =
      let f = read-in-fields (rom p3) m.core.pc i e (bytes p3) in
      let l = line_at i.row in
      lifted i e (call-row-follows (around rom o m x.pins p3 v at.stands i e) l (looking rom o m x.pins p3 v at.stands) at.valid.core.regs.lr at.stands.running at.stands.ei p3 at.stands.bank at.valid.ram
      (is_known v) at.stands.sf (field_a l.codes) l.operation (line_fits i.row f.row) (line_branches i.row f.row) k)
  read-follows (Err NoRow.Unassigned) e k = absurd (omega (arith, k))
  read-follows (Err NoRow.PastEnd) e k = absurd (omega (arith, k))

  step_follows : 1 ≤ node.kind → Step
  unfolding call_node_of
  step_follows k = read-follows (read_at (rom p3) m.core.pc) refl (rw at.stands.at k)

pub one_step : (rom : ℕ → ℕ → ℕ) → ((p3 at : ℕ) → rom p3 at < 256) → (o : Options) (p3 start : ℕ) → OneStep (emulated rom o) (call_flow o.device (rom p3) start) (call_cycles o.device (rom p3)) address_of (At o.device p3)
unfolding call_flow
one_step rom bytes o p3 start m x v at k h = step_follows rom bytes o p3 start m x v at k
