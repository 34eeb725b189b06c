-- A row that is not excluded follows the flow rules with calls: as document 01's rules say, or it calls, or it returns from a call.
use mathlib.Core.Path.{◌≡◌, refl, sym, subst, ◌∙◌}
use mathlib.Core.Logic.{◌⊎◌}
use mathlib.Core.Bool.{Bool, true, false}
use Prim.Native.Nat.{ℕ, suc, ◌-◌, ◌<◌, ◌≤◌}
use native.Mathlib.Omega.{arith}
use lib.Dec.{T}
use Rattle.laws.specs.Choice.{pick}
use Rattle.sheet.specs.Operation.{Step, After, Entry, Operation}
use Rattle.sheet.specs.Operation.Operation.{return_flag}
use Rattle.sheet.specs.Table.{Line}
use Rattle.sheet.specs.Flow.{call_entry}
use Rattle.ports.specs.declared.Mode.TheVariants.{Running}
use Rattle.record.specs.Stack.{can_push, can_pop, CanPush, called, popped, kept_top, top_at, pc_at}
use Rattle.record.specs.Valid.{Nibbles}
use Rattle.record.specs.declared.Machine.{Machine}
use Rattle.record.proofs.Levels.{pc-back}
use Rattle.record.proofs.Range.{can-push}
use Rattle.row.specs.Places.{Around}
use Rattle.row.specs.Rows as Rows
use Rattle.row.specs.Rows.{Done, pc_past, spent, call_of, branch_of, latches_of, performed}
use Rattle.row.specs.Columns.{work_puts}
use Rattle.row.proofs.RowStops.{Named}
use Rattle.row.proofs.RowsValid.{fits_operation}
use Rattle.bound_flow.specs.Flow.{place, address_of, is_known, Way, way_by, node_by}
use Rattle.bound_runs.proofs.Lines.{sets_branching}
use Rattle.bound_runs.proofs.Standing.{Standing, address_place, known_place}
use Rattle.bound_runs.proofs.Rows.{RowFollows, stops_named, returns, goes, Allowed, row-follows}
use Rattle.bound_calls.specs.CallFlow.{is_sp, CallWay, call_way_by, call_node_by}
use Rattle.bound_calls.specs.declared.CallNode.{CallNode}
use Rattle.bound_calls.proofs.Shape.{few_kinds, on_or_end}
use Rattle.bound_calls_runs.proofs.Levels.{above-level}
use Rattle.bound_calls_runs.proofs.StackPointer.{work_sp}

pub data CallRowFollows (o : Operation) (m : Machine) (x : Done) (p3 : ℕ) (n : CallNode) : Type 0 where
  stops : Named x.stop → CallRowFollows o m x p3 n
  ends : n.kind ≡ 2 → o ≡ return_flag → x.stop ≡ 0 → x.cycles ≡ n.cost → CallRowFollows o m x p3 n
  goes_on : (v : ℕ) → n.kind ≡ 1 → (v ≡ n.next) ⊎ (v ≡ n.other) → x.stop ≡ 0 → x.cycles ≡ n.cost → Standing x.machine.core p3 v → x.machine.core.ptrs.sp ≡ m.core.ptrs.sp → CallRowFollows o m x p3 n
  calls : n.kind ≡ 3 → x.stop ≡ 0 → x.cycles ≡ n.cost → Standing x.machine.core p3 (place n.entry false) → suc x.machine.core.ptrs.sp ≡ m.core.ptrs.sp
      → pc_at x.machine.ram x.machine.core.ptrs.sp ≡ address_of n.next → ((i : ℕ) → m.core.ptrs.sp ≤ i → pc_at x.machine.ram i ≡ pc_at m.ram i) → CallRowFollows o m x p3 n
  comes_back : n.kind ≡ 4 → x.stop ≡ 0 → x.cycles ≡ n.cost
      → ((v : ℕ) → address_of v ≡ pc_at m.ram m.core.ptrs.sp → (is_known v ≡ true → m.core.regs.sf ≡ true) → Standing x.machine.core p3 v) → x.machine.core.ptrs.sp ≡ suc m.core.ptrs.sp → CallRowFollows o m x p3 n

module _ (w : Around) (l : Line) (m : Machine) (lr : m.core.regs.lr < 16) (running : m.core.mode ≡ Running) (ei : m.core.ints.ei ≡ false) (p3 : ℕ) (bank : m.core.ports.p3 ≡ p3) (nibbles : Nibbles m.ram)
    (known : Bool) (sf : known ≡ true → m.core.regs.sf ≡ true) where
  abbrev node : CallWay → CallNode
  node y = call_node_by m.core.pc known w.insn l.bytes l.cycles y

  -- document 01's rules, where the row leaves SP
  as-before-follows : (o : Operation) (y : Way) → ((performed m w l o).stop ≡ 0 → (performed m w l o).machine.core.ptrs.sp ≡ m.core.ptrs.sp)
      → RowFollows o (performed m w l o) p3 (node_by m.core.pc known w.insn l.bytes l.cycles y) → CallRowFollows o m (performed m w l o) p3 (node (CallWay.as_before y))
  as-before-follows o y same (stops_named h) = stops h
  as-before-follows o y same (returns k e z c) = ends k e z c
  as-before-follows o y same (goes v k e z c s) = goes_on v k e z c s (same z)

  return-by : (t : Bool) → can_pop m.core ≡ t → CallRowFollows Operation.return m (pick t (spent l.cycles (popped m)) (Rows.stops 32 m)) p3 (node CallWay.back)
  return-by true e =
      comes_back refl refl refl (λ v at sf. record { at = sym at; running = running; ei = ei; bank = bank; sf = sf }) (omega arith)
  return-by false e = stops (omega arith)

  call_by : (e : Entry) (t : Bool) → can_push m.core ≡ t → CallRowFollows (Operation.call e) m (pick t (spent l.cycles (called m (pc_past m l) (call_entry e w.insn.a))) (Rows.stops 32 m)) p3 (node (CallWay.into e))
  unfolding called
  call_by e true p =
      let c : CanPush m.core = can-push p in
      let sp = m.core.ptrs.sp - 1 in
      calls refl refl refl
      (record { at = sym (address_place (call_entry e w.insn.a) false); running = running; ei = ei; bank = bank; sf = λ k. absurd (subst T (sym (known_place (call_entry e w.insn.a) false k)) tt) })
      (omega (arith, c.above))
      (pc-back m.ram sp (pc_past m l) (kept_top (pc_past m l) (top_at m.ram sp)) (omega (arith, nibbles.size, c.below)) (omega arith) (omega arith) ∙ sym (address_place (pc_past m l) false))
      (λ i h. above-level m.ram sp (pc_past m l) (kept_top (pc_past m l) (top_at m.ram sp)) i (omega (arith, c.above)))
  call_by e false p = stops (omega arith)

  flag-follows : RowFollows return_flag (performed m w l return_flag) p3 (node_by m.core.pc known w.insn l.bytes l.cycles Way.end) → CallRowFollows return_flag m (performed m w l return_flag) p3 (node (CallWay.as_before Way.end))
  flag-follows (stops_named h) = stops h
  flag-follows (returns k e z c) = ends k e z c
  flag-follows (goes v k e z c s) = absurd (omega (arith, k))

  module _ (n : ℕ) where
    abbrev oldWay : Operation → Way
    oldWay o = way_by w.options.device w.insn l.s o

    allowed : (y : Way) → 1 ≤ (node_by m.core.pc known w.insn l.bytes l.cycles y).kind → Allowed (node_by m.core.pc known w.insn l.bytes l.cycles y)
    allowed y h = on_or_end (node_by m.core.pc known w.insn l.bytes l.cycles y).kind h (few_kinds m.core.pc known w.insn l.bytes l.cycles y)

    -- document 01's rules give it
    old : (o : Operation) → T (fits_operation n o) → T (sets_branching l.s o) → 1 ≤ (node_by m.core.pc known w.insn l.bytes l.cycles (oldWay o)).kind
        → RowFollows o (performed m w l o) p3 (node_by m.core.pc known w.insn l.bytes l.cycles (oldWay o))
    old o f b h = row-follows w l m lr running ei p3 bank known sf n o f b (allowed (oldWay o) h)

    work-follows : (s : Step) (a : After) (t : Bool) → work_puts is_sp s a ≡ t → T (fits_operation n (Operation.work s a)) → T (sets_branching l.s (Operation.work s a))
        → 1 ≤ (node (CallWay.as_before (pick t Way.nowhere (oldWay (Operation.work s a))))).kind → CallRowFollows (Operation.work s a) m (performed m w l (Operation.work s a)) p3 (node (CallWay.as_before (pick t Way.nowhere (oldWay (Operation.work s a)))))
    work-follows s a true e f b h = absurd (omega (arith, h))
    work-follows s a false e f b h = as-before-follows (Operation.work s a) (oldWay (Operation.work s a)) (λ z. work_sp w m l s a e) (old (Operation.work s a) f b h)

    pub call-row-follows : (o : Operation) → T (fits_operation n o) → T (sets_branching l.s o) → 1 ≤ (node (call_way_by w.options.device w.insn l.s o)).kind
        → CallRowFollows o m (performed m w l o) p3 (node (call_way_by w.options.device w.insn l.s o))
    unfolding branch_of call_of latches_of
    call-row-follows (Operation.work s a) f b h = work-follows s a (work_puts is_sp s a) refl f b h
    call-row-follows (Operation.branch t) f b h = as-before-follows (Operation.branch t) (oldWay (Operation.branch t)) (λ z. refl) (old (Operation.branch t) f b h)
    call-row-follows (Operation.call e) f b h = call_by e (can_push m.core) refl
    call-row-follows Operation.return f b h = return-by (can_pop m.core) refl
    call-row-follows Operation.return_flag f b h = flag-follows (old return_flag f b h)
    call-row-follows (Operation.IL⟵IL-and-r e) f b h = as-before-follows (Operation.IL⟵IL-and-r e) (oldWay (Operation.IL⟵IL-and-r e)) (λ z. refl) (old (Operation.IL⟵IL-and-r e) f b h)
    call-row-follows Operation.no_operation f b h = as-before-follows Operation.no_operation (oldWay Operation.no_operation) (λ z. refl) (old Operation.no_operation f b h)
