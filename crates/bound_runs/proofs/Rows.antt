-- A row that is not excluded follows the flow rules: it comes to a named stop, or it is RTI and ends, or it goes on and the record stands at a place that follows.
use mathlib.Core.Path.{◌≡◌, refl, sym, ◌∙◌}
use mathlib.Core.Logic.{◌⊎◌, inl, inr}
use mathlib.Core.Bool.{Bool, true, false}
use Prim.Native.Nat.{ℕ, ◌<◌}
use native.Mathlib.Omega.{arith}
use native.Mathlib.Decide.{ℕ_discrete}
use lib.Dec.{T, leb}
use Rattle.laws.specs.Among.{among}
use Rattle.laws.specs.Choice.{pick, both}
use Rattle.laws.proofs.Computed.{true→T}
use Rattle.device.specs.Device.{guarded}
use Rattle.device.specs.declared.Device.{Device}
use Rattle.device.specs.declared.Device.TheVariants.{Em73862, Em73P982}
use Rattle.sheet.specs.Operation.{Step, After, Target, Enable, Operation}
use Rattle.sheet.specs.Operation.Operation.{return_flag}
use Rattle.sheet.specs.Table.{Line, set}
use Rattle.sheet.specs.Flow.{target_of}
use Rattle.alu.specs.Flags.{flag_after}
use Rattle.ports.specs.declared.Mode.TheVariants.{Running}
use Rattle.record.specs.declared.Machine.{Machine}
use Rattle.row.specs.Places.{Around}
use Rattle.row.specs.Rows.{Done, pc_past, spent, stops, branch_of, latches_of, performed}
use Rattle.row.specs.Columns.{is_ordinary, sets_ei, writes_port}
use Rattle.row.proofs.Frame.{ordinary}
use Rattle.row.proofs.StepsValid.{fits_step, fits_after}
use Rattle.row.proofs.RowsValid.{fits_operation}
use Rattle.bound_flow.specs.Flow.{place, is_one, writes_guarded, Way, way_by, excluded, going, node_by}
use Rattle.bound_flow.specs.Flow.{Node}
use Rattle.row.proofs.RowStops.{Named, NoneOrNamed, row-stop}
use Rattle.row.proofs.RowMode.{work_mode}
use Rattle.row.proofs.RowBank.{work-bank}
use Rattle.bound_runs.proofs.Lines.{sets_branching, one_is_set}
use Rattle.bound_runs.proofs.Standing.{Standing, address_place, known_place}

pub data RowFollows (o : Operation) (x : Done) (p3 : ℕ) (n : Node) : Type 0 where
  stops_named : Named x.stop → RowFollows o x p3 n
  returns : n.kind ≡ 2 → o ≡ return_flag → x.stop ≡ 0 → x.cycles ≡ n.cost → RowFollows o x p3 n
  goes : (v : ℕ) → n.kind ≡ 1 → (v ≡ n.next) ⊎ (v ≡ n.other) → x.stop ≡ 0 → x.cycles ≡ n.cost → Standing x.machine.core p3 v → RowFollows o x p3 n

-- the node goes on or ends
abbrev pub Allowed : Node → Type 0
Allowed n = (n.kind ≡ 1) ⊎ (n.kind ≡ 2)

pub not_allowed : Allowed excluded → ⊥
not_allowed (inl e) = omega arith
not_allowed (inr e) = omega arith

both_off : (a b : Bool) → both a b ≡ false → b ≡ true → a ≡ false
both_off true b e t = sym t ∙ e
both_off false b e t = refl

-- P16 is guarded on both devices
guards_16 : (d : Device) (n : ℕ) → n ≡ 16 → among (guarded d) n ≡ true
guards_16 Em73862 n e = rw e
guards_16 Em73P982 n e = rw e

return_spends : (t : Bool) (n m : Machine) (cycles : ℕ) → (pick t (spent cycles n) (stops 32 m)).stop ≡ 0 → (pick t (spent cycles n) (stops 32 m)).cycles ≡ cycles
return_spends true n m cycles z = refl
return_spends false n m cycles z = absurd (omega arith)

module _ (w : Around) (l : Line) (m : Machine) (lr : m.core.regs.lr < 16) (running : m.core.mode ≡ Running) (ei : m.core.ints.ei ≡ false) (p3 : ℕ) (bank : m.core.ports.p3 ≡ p3) where
  -- at the next instruction, with SF known set where S is 1
  onward-follows : (o : Operation) → is_ordinary o ≡ true → sets_ei o ≡ false → ((performed m w l o).stop ≡ 0 → ((performed m w l o).machine.core.mode ≡ m.core.mode) × ((performed m w l o).machine.core.ports.p3 ≡ m.core.ports.p3))
      → RowFollows o (performed m w l o) p3 (going (place (pc_past m l) (is_one l.s)) (place (pc_past m l) (is_one l.s)) l.cycles)
  onward-follows o e q keeps = go (row-stop w m l o)
    where
      go : NoneOrNamed (performed m w l o).stop → RowFollows o (performed m w l o) p3 (going (place (pc_past m l) (is_one l.s)) (place (pc_past m l) (is_one l.s)) l.cycles)
      go (inr h) = stops_named h
      go (inl z) =
          let x = ordinary m w l o e z in
          goes (place (pc_past m l) (is_one l.s)) refl (inl refl) z x.cycles
          (record {
            at = x.pc ∙ sym (address_place (pc_past m l) (is_one l.s));
            running = (keeps z).0 ∙ running;
            ei = x.ei q ei;
            bank = (keeps z).1 ∙ bank;
            sf = λ k. x.sf (one_is_set l.s (true→T (known_place (pc_past m l) (is_one l.s) k)));
          })

  -- "any row writing P16" is excluded: another leaves the mode
  work-keeps : (n : ℕ) (s : Step) (a : After) → T (both (fits_step n s) (fits_after n a)) → writes_guarded w.options.device w.insn (Operation.work s a) ≡ false → (performed m w l (Operation.work s a)).stop ≡ 0
      → Dec (w.insn.b ≡ 16) → (performed m w l (Operation.work s a)).machine.core.mode ≡ m.core.mode
  work-keeps n s a f p z (yes e) = (ordinary m w l (Operation.work s a) refl z).mode (both_off (writes_port (Operation.work s a)) (among (guarded w.options.device) w.insn.b) p (guards_16 w.options.device w.insn.b e))
  work-keeps n s a f p z (no ne) = work_mode w n ne m l s a f lr

  module _ (known : Bool) (sf : known ≡ true → m.core.regs.sf ≡ true) where
    abbrev node : Way → Node
    node y = node_by m.core.pc known w.insn l.bytes l.cycles y

    work-follows : (n : ℕ) (s : Step) (a : After) → T (both (fits_step n s) (fits_after n a)) → (t : Bool) → writes_guarded w.options.device w.insn (Operation.work s a) ≡ t
        → Allowed (node (pick t Way.nowhere (Way.onward (is_one l.s)))) → RowFollows (Operation.work s a) (performed m w l (Operation.work s a)) p3 (node (pick t Way.nowhere (Way.onward (is_one l.s))))
    work-follows n s a f true p k = absurd (not_allowed k)
    work-follows n s a f false p k = onward-follows (Operation.work s a) refl refl (λ z. (work-keeps n s a f p z (ℕ_discrete w.insn.b 16), work-bank w n m l s a f lr p))

    -- "one at a known place has only its target, at an unknown place also the next instruction"
    branch_follows : (t : Target) → l.s ≡ set → (b k : Bool) → m.core.regs.sf ≡ b → known ≡ k → RowFollows (Operation.branch t) (performed m w l (Operation.branch t)) p3 (node (Way.branches t))
    unfolding branch_of flag_after
    branch_follows t s true k e q =
        goes (place (target_of t m.core.pc w.insn.a) true) refl (inr refl) refl refl
        (record { at = rw e (sym (address_place (target_of t m.core.pc w.insn.a) true)); running = running; ei = ei; bank = bank; sf = λ z. rw s refl })
    branch_follows t s false true e q = absurd (true→T (sym e ∙ sf q))
    branch_follows t s false false e q =
        goes (place (pc_past m l) true) refl (inl (rw q refl)) refl refl
        (record { at = rw e (sym (address_place (pc_past m l) true)); running = running; ei = ei; bank = bank; sf = λ z. rw s refl })

    return-follows : NoneOrNamed (performed m w l return_flag).stop → RowFollows return_flag (performed m w l return_flag) p3 (node Way.end)
    return-follows (inr h) = stops_named h
    return-follows (inl z) = returns refl refl z (return_spends (leb m.core.ptrs.sp 12) _ m l.cycles z)

    pub row-follows : (n : ℕ) (o : Operation) → T (fits_operation n o) → T (sets_branching l.s o)
        → Allowed (node (way_by w.options.device w.insn l.s o)) → RowFollows o (performed m w l o) p3 (node (way_by w.options.device w.insn l.s o))
    unfolding latches_of
    row-follows n (Operation.work s a) f b k = work-follows n s a f (writes_guarded w.options.device w.insn (Operation.work s a)) refl k
    row-follows n (Operation.branch t) f b k = branch_follows t (one_is_set l.s b) m.core.regs.sf known refl refl
    row-follows n (Operation.call e) f b k = absurd (not_allowed k)
    row-follows n Operation.return f b k = absurd (not_allowed k)
    row-follows n Operation.return_flag f b k = return-follows (row-stop w m l return_flag)
    row-follows n (Operation.IL⟵IL-and-r Enable.EI⟵EI) f b k = onward-follows (Operation.IL⟵IL-and-r Enable.EI⟵EI) refl refl (λ z. (refl, refl))
    row-follows n (Operation.IL⟵IL-and-r Enable.EI⟵0) f b k = onward-follows (Operation.IL⟵IL-and-r Enable.EI⟵0) refl refl (λ z. (refl, refl))
    row-follows n (Operation.IL⟵IL-and-r Enable.EI⟵1) f b k = absurd (not_allowed k)
    row-follows n Operation.no_operation f b k = onward-follows Operation.no_operation refl refl (λ z. (refl, refl))
