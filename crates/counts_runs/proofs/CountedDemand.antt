-- Demand 3 under counts: the theory of counted flows, for the emulated machine.
use Rattle.std.specs.Prelude.{Err, Ok}
use mathlib.Core.Path.{◌≡◌, refl, sym, ap, ◌∙◌}
use mathlib.Core.Bool.{Bool}
use mathlib.Core.List.{List, [], ◌∷◌, ◌++◌}
use Prim.Native.Nat.{ℕ, suc, ◌+◌, ◌≤◌, ◌<◌}
use native.Mathlib.Omega.{arith}
use native.Mathlib.Decide.{ℕ_discrete}
use lib.ListN.{length}
use Rattle.device.specs.declared.Device.{Device}
use Rattle.device.specs.declared.Options.{Options}
use Rattle.sheet.specs.declared.NoRow.{NoRow}
use Rattle.sheet.specs.Operation.{Operation, Entry}
use Rattle.sheet.specs.Table.{Line, line_at}
use Rattle.sheet.specs.Reading.{Read, read_at}
use Rattle.sheet.specs.declared.Insn.{Insn}
use Rattle.frame.specs.declared.Pins.{Pins}
use Rattle.record.specs.declared.Machine.{Machine}
use Rattle.step.specs.Step.{step_of}
use Rattle.run.specs.Run.{run_of}
use Rattle.run.proofs.Rest.{run_next, completes-on}
use Rattle.routines.specs.Calling.{Flow}
use Rattle.routines.specs.Answer.{Judged}
use Rattle.routines.specs.Runs as runs
use Rattle.counts.specs.Counts.{Count, Numbers}
use Rattle.counts.specs.CountedAnswer.{Settled, HasCountedBound}
use Rattle.counts.specs.CountedRuns as counted
use Rattle.counts.specs.CountedRuns.{Watched}
use Rattle.counts.proofs.Kept.{Tells, kept-most, kept-steps, kept-ends}
use Rattle.row.specs.Columns.{work_puts}
use Rattle.laws.specs.Choice.{pick}
use Rattle.bound_flow.specs.Flow.{address_of, is_known, Way, way_by}
use Rattle.bound_runs.specs.Handler.{Enters, Returns, Ends, AllInRange}
use Rattle.bound_calls.specs.declared.CallNode.{CallNode}
use Rattle.bound_calls.specs.CallFlow.{call_way_by, call_node_row, call_node_by, call_node_read, call_node_of, is_sp, call_flow, call_cycles}
use Rattle.bound_calls.proofs.Shape.{few_kinds, flow-small, flow_widens}
use Rattle.bound_calls_runs.specs.CallHandler.{ExecutesCall, SparesStack}
use Rattle.bound_calls_runs.proofs.CallSteps.{Shown, emulated, At, one_step, node-is, call-kind}
use Rattle.bound_calls_runs.proofs.CallDemand.{standard, framed, framed_length, spares, ends_by, enters_at}
use Rattle.counts_runs.specs.CountedHandler.{ExecutesRet, Keeps, KeepsCounts, NoneEnds, CountedPromise, Demand3Counted}

-- what the counts ask of the emulated machine
abbrev watched : (rom : ℕ → ℕ → ℕ) (o : Options) → Watched (emulated rom o)
watched rom o = record { pc = λ m. m.core.pc; Backs = λ m x. ExecutesRet rom o m x.pins }

-- only a call's row has kind 3, only RET's kind 4
call_of_lem : (d : Device) (at : ℕ) (known : Bool) (i : Insn) (l : Line) (o : Operation) → (call_node_by at known i l.bytes l.cycles (call_way_by d i l.s o)).kind ≡ 3 → (e : Entry) × (o ≡ Operation.call e)
call_of_lem d at known i l (Operation.work to a) k = absurd (omega (arith, k, few_kinds at known i l.bytes l.cycles (pick (work_puts is_sp to a) Way.nowhere (way_by d i l.s (Operation.work to a)))))
call_of_lem d at known i l (Operation.branch t) k = absurd (omega (arith, k, few_kinds at known i l.bytes l.cycles (way_by d i l.s (Operation.branch t))))
call_of_lem d at known i l (Operation.call e) k = (e, refl)
call_of_lem d at known i l Operation.return k = absurd (omega (arith, k))
call_of_lem d at known i l Operation.return_flag k = absurd (omega (arith, k, few_kinds at known i l.bytes l.cycles (way_by d i l.s Operation.return_flag)))
call_of_lem d at known i l (Operation.IL⟵IL-and-r e) k = absurd (omega (arith, k, few_kinds at known i l.bytes l.cycles (way_by d i l.s (Operation.IL⟵IL-and-r e))))
call_of_lem d at known i l Operation.no_operation k = absurd (omega (arith, k, few_kinds at known i l.bytes l.cycles (way_by d i l.s Operation.no_operation)))

ret_of : (d : Device) (at : ℕ) (known : Bool) (i : Insn) (l : Line) (o : Operation) → (call_node_by at known i l.bytes l.cycles (call_way_by d i l.s o)).kind ≡ 4 → o ≡ Operation.return
ret_of d at known i l (Operation.work to a) k = absurd (omega (arith, k, few_kinds at known i l.bytes l.cycles (pick (work_puts is_sp to a) Way.nowhere (way_by d i l.s (Operation.work to a)))))
ret_of d at known i l (Operation.branch t) k = absurd (omega (arith, k, few_kinds at known i l.bytes l.cycles (way_by d i l.s (Operation.branch t))))
ret_of d at known i l (Operation.call e) k = absurd (omega (arith, k))
ret_of d at known i l Operation.return k = refl
ret_of d at known i l Operation.return_flag k = absurd (omega (arith, k, few_kinds at known i l.bytes l.cycles (way_by d i l.s Operation.return_flag)))
ret_of d at known i l (Operation.IL⟵IL-and-r e) k = absurd (omega (arith, k, few_kinds at known i l.bytes l.cycles (way_by d i l.s (Operation.IL⟵IL-and-r e))))
ret_of d at known i l Operation.no_operation k = absurd (omega (arith, k, few_kinds at known i l.bytes l.cycles (way_by d i l.s Operation.no_operation)))

module _ (rom : ℕ → ℕ → ℕ) (bytes : (p3 at : ℕ) → rom p3 at < 256) (o : Options) (p3 start : ℕ) where
  abbrev flow : Flow
  flow = call_flow o.device (rom p3) start

  module _ (m : Machine) (x : Shown o.device) (v : ℕ) (at : At o.device p3 m v) where
    abbrev Row : Type 0
    Row = (i : Insn) × (read_at (rom p3) m.core.pc ≡ Ok i)

    -- a place that is not excluded has a row
    row_at : 1 ≤ (call_node_of o.device (rom p3) v).kind → Row
    unfolding call_node_of
    row_at k = go (read_at (rom p3) m.core.pc) refl (rw at.stands.at k)
      where
        go : (r : Read) → read_at (rom p3) m.core.pc ≡ r → 1 ≤ (call_node_read o.device m.core.pc (is_known v) r).kind → Row
        go (Ok i) e k = (i, e)
        go (Err NoRow.Unassigned) e k = absurd (omega (arith, k))
        go (Err NoRow.PastEnd) e k = absurd (omega (arith, k))

    kind-of-row : (i : Insn) → read_at (rom p3) m.core.pc ≡ Ok i → (call_node_row o.device m.core.pc (is_known v) i (line_at i.row)).kind ≡ (call_node_of o.device (rom p3) v).kind
    kind-of-row i e = ap (λ (n : CallNode). n.kind) (sym (node-is rom bytes o p3 start m x v at i e))

    shown-row : (i : Insn) → read_at (rom p3) m.core.pc ≡ Ok i → read_at (rom m.core.ports.p3) m.core.pc ≡ Ok i
    shown-row i e = ap (λ (p : ℕ). read_at (rom p) m.core.pc) at.stands.bank ∙ e

    executes-call : (step_of rom o m x.pins).stop ≡ 0 → (call_node_of o.device (rom p3) v).kind ≡ 3 → ExecutesCall rom o m x.pins
    executes-call z k =
        let r = row_at (omega (arith, k)) in
        let i = r.0 in
        let c = call_of_lem o.device m.core.pc (is_known v) i (line_at i.row) (line_at i.row).operation (kind-of-row i r.1 ∙ k) in
        record { running = at.stands.running; accepts_nothing = at.stands.ei; insn = i; entry = c.0; read = shown-row i r.1; is_call = c.1; completes = z }

    executes-ret : (step_of rom o m x.pins).stop ≡ 0 → (call_node_of o.device (rom p3) v).kind ≡ 4 → ExecutesRet rom o m x.pins
    executes-ret z k =
        let r = row_at (omega (arith, k)) in
        let i = r.0 in
        let c = ret_of o.device m.core.pc (is_known v) i (line_at i.row) (line_at i.row).operation (kind-of-row i r.1 ∙ k) in
        record { running = at.stands.running; accepts_nothing = at.stands.ei; insn = i; read = shown-row i r.1; is_ret = c; completes = z }

    ret-kind : ExecutesRet rom o m x.pins → (call_node_of o.device (rom p3) v).kind ≡ 4
    ret-kind r = ap (λ (n : CallNode). n.kind) (node-is rom bytes o p3 start m x v at r.insn (rw at.stands.bank at r.read)) ∙ rw r.is_ret

  tells : Tells (emulated rom o) (watched rom o) flow address_of (At o.device p3)
  unfolding call_flow
  tells =
      record {
        pc = λ m v at. at.stands.at;
        calls = λ m x v at past k. executes-call m x v at past.1 k;
        calls_not = λ m x v at k e. omega (arith, k, call-kind rom bytes o p3 start m x v at e);
        backs = λ m x v at past k. executes-ret m x v at past.1 k;
        backs_not = λ m x v at n e. n (ret-kind m x v at e);
      }

  -- a run keeps the counts as the theory says it
  keeps-to : (C : List Count) (frames : List Pins) {us : List Numbers} {u : Numbers} {m : Machine} (shown : AllInRange o.device frames) → Keeps rom o C us u m frames
      → counted.Keeps (emulated rom o) (watched rom o) C us u m (framed o.device frames shown)
  keeps-to C [] shown Keeps.no_frame = counted.Keeps.no_frame
  keeps-to C (pins ∷ others) shown (Keeps.ends e) = counted.Keeps.ends e
  keeps-to C (pins ∷ others) shown (Keeps.goes_on a b fits k) = counted.Keeps.goes_on a b fits (keeps-to C others shown.1 k)
  keeps-to C (pins ∷ others) shown (Keeps.calls e k) = counted.Keeps.calls e (keeps-to C others shown.1 k)
  keeps-to C (pins ∷ others) shown (Keeps.comes_back e fits k) = counted.Keeps.backs e fits (keeps-to C others shown.1 k)

  -- a run that returns with its last frame
  record ReturnsBy (m : Machine) (before : List Pins) (last : Pins) (frames : List (Shown o.device)) : Type 0 where
    steps : ℕ
    spent : ℕ
    returns : counted.ReturnsAt (emulated rom o) m frames steps spent
    cycles : spent ≡ (run_of rom o m before).cycles + (step_of rom o (run_of rom o m before).machine last).cycles

  returns_by : (before : List Pins) (m : Machine) (last : Pins) (shown : AllInRange o.device (before ++ (last ∷ []))) → NoneEnds rom o m before → (run_of rom o m before).number ≡ 0
      → Returns rom o (run_of rom o m before).machine last → ReturnsBy m before last (framed o.device (before ++ (last ∷ [])) shown)
  unfolding run_of
  returns_by [] m last shown none z r = record { steps = 1; spent = (step_of rom o m last).cycles; returns = counted.ReturnsAt.now (Ends.returns r) r; cycles = omega arith }
  returns_by (pins ∷ before) m last shown none z r =
      let done = completes-on rom o pins before 0 0 m z (ℕ_discrete (step_of rom o m pins).stop 0) in
      let next = run_next rom o pins before m done in
      let q = returns_by before (step_of rom o m pins).machine last shown.1 none.1 (rw next at z) (rw next at r) in
      record {
        steps = suc q.steps;
        spent = (step_of rom o m pins).cycles + q.spent;
        returns = counted.ReturnsAt.later (none.0, done) q.returns;
        cycles = rw next (omega (arith, q.cycles));
      }

  -- a run that ends returns where its last step does
  ends-returning : (frames : List Pins) (m : Machine) {sp : ℕ} (shown : AllInRange o.device frames) {k n : ℕ} (e : runs.EndsAt (emulated rom o) sp m (framed o.device frames shown) k n)
      → Returns rom o (run_of rom o m (ends_by rom o frames m shown e).before).machine (ends_by rom o frames m shown e).last → counted.ReturnsAt (emulated rom o) m (framed o.device frames shown) k n
  unfolding ends_by run_of
  ends-returning [] m {sp = sp} shown {k = k} {n = n} e ret = elim e [ ]
  ends-returning (pins ∷ others) m shown (runs.EndsAt.now e r) ret = counted.ReturnsAt.now e ret
  ends-returning (pins ∷ others) m shown (runs.EndsAt.later past e) ret =
      let q = ends_by rom o others (step_of rom o m pins).machine shown.1 e in
      let next = run_next rom o pins q.before m past.1 in
      counted.ReturnsAt.later past (ends-returning others (step_of rom o m pins).machine shown.1 e (rw next at ret))

  module _ (start-lt : start < 8192) {K : ℕ → Bool} {C : List Count} {N depth : ℕ} {path deep : List ℕ} (judged : Judged flow K) (settled : Settled flow K address_of C)
      (bound : HasCountedBound flow (call_cycles o.device (rom p3)) K address_of C N depth path deep) where
    most : (m : Machine) → Enters o.device m p3 start → (frames : List Pins) (shown : AllInRange o.device frames) → SparesStack rom o m.core.ptrs.sp m frames → KeepsCounts rom o C m frames
        → {k c : ℕ} → counted.ReturnsAt (emulated rom o) m (framed o.device frames shown) k c → c ≤ N
    unfolding call_flow
    most m enters frames shown spared keeps q =
        kept-most (emulated rom o) (watched rom o) flow (call_cycles o.device (rom p3)) address_of (At o.device p3) (one_step rom bytes o p3 start) tells
        (flow-small o.device (rom p3) (bytes p3) start start-lt) (flow_widens o.device (rom p3) start) (standard o.device (rom p3) (bytes p3) start) judged settled bound
        m (enters_at enters) (framed o.device frames shown) (spares rom o m.core.ptrs.sp m frames shown spared) (keeps-to C frames shown keeps) q

    abbrev enough : ℕ
    enough =
        kept-steps (emulated rom o) (watched rom o) flow (call_cycles o.device (rom p3)) address_of (At o.device p3) (one_step rom bytes o p3 start) tells
        (flow-small o.device (rom p3) (bytes p3) start start-lt) (flow_widens o.device (rom p3) start) (standard o.device (rom p3) (bytes p3) start) judged settled

    ends-soon : (m : Machine) → Enters o.device m p3 start → (frames : List Pins) (shown : AllInRange o.device frames) → SparesStack rom o m.core.ptrs.sp m frames → KeepsCounts rom o C m frames
        → enough ≤ length frames → counted.EndsSoon (emulated rom o) m.core.ptrs.sp m (framed o.device frames shown) enough
    unfolding call_flow
    ends-soon m enters frames shown spared keeps many =
        kept-ends (emulated rom o) (watched rom o) flow (call_cycles o.device (rom p3)) address_of (At o.device p3) (one_step rom bytes o p3 start) tells
        (flow-small o.device (rom p3) (bytes p3) start start-lt) (flow_widens o.device (rom p3) start) (standard o.device (rom p3) (bytes p3) start) judged settled
        m (enters_at enters) (framed o.device frames shown) (spares rom o m.core.ptrs.sp m frames shown spared) (keeps-to C frames shown keeps) (omega (arith, many, framed_length o.device frames shown))

    promise : CountedPromise rom o p3 start C N
    promise =
        record {
          returns = λ m enters before last shown spared keeps none z r.
              let q = returns_by before m last shown none z r in
              omega (arith, q.cycles, most m enters (before ++ (last ∷ [])) shown spared keeps q.returns);
          most_steps = enough;
          ends = λ m enters frames shown spared keeps many.
              let e = ends-soon m enters frames shown spared keeps many in
              let q = ends_by rom o frames m shown e.ends in
              record {
                before = q.before;
                last = q.last;
                after = q.after;
                parts = q.parts;
                steps = omega (arith, q.count, e.soon);
                completes = q.completes;
                ends = q.ends;
                own = q.own;
                cycles = λ r. omega (arith, q.cycles, most m enters frames shown spared keeps (ends-returning frames m shown e.ends r));
              };
        }

pub demand_3_counted : Demand3Counted
demand_3_counted rom bytes o p3 start start-lt K C N depth path deep judged settled bound = promise rom bytes o p3 start start-lt judged settled bound
