-- "any row storing to SP" is excluded: another leaves SP.
use mathlib.Core.Path.{◌≡◌, refl, subst, ◌∙◌}
use mathlib.Core.Bool.{false}
use Prim.Native.Nat.{ℕ}
use lib.Dec.{T}
use Rattle.sheet.specs.Operation.{Place, Pointer, Step, After}
use Rattle.sheet.specs.Table.{Line}
use Rattle.record.specs.declared.Machine.{Machine}
use Rattle.row.specs.Places.{Around, put_of}
use Rattle.row.specs.Rows.{work_of}
use Rattle.row.specs.Columns.{work_puts}
use Rattle.row.proofs.Keeps.{work-holds, But, but_in, but-after}
use Rattle.bound_calls.specs.CallFlow.{is_sp}

sp_put : (w : Around) (m : Machine) (p : Place) (v : ℕ) → is_sp p ≡ false → (put_of m w p v).machine.core.ptrs.sp ≡ m.core.ptrs.sp
sp_put w m (Place.register r) v e = refl
sp_put w m (Place.given g) v e = refl
sp_put w m (Place.cell c) v e = refl
sp_put w m (Place.port q) v e = refl
sp_put w m (Place.pointer Pointer.sp) v e = absurd (subst T e tt)
sp_put w m (Place.pointer (Pointer.dp p)) v e = refl
sp_put w m (Place.pointer (Pointer.ta p)) v e = refl
sp_put w m (Place.pointer (Pointer.tb p)) v e = refl
sp_put w m (Place.rom g) v e = refl
sp_put w m Place.mask v e = refl

pub work_sp : (w : Around) (m : Machine) (l : Line) (s : Step) (a : After) → work_puts is_sp s a ≡ false → (work_of m w l s a).machine.core.ptrs.sp ≡ m.core.ptrs.sp
work_sp w m l s a e =
    work-holds (λ n. n.core.ptrs.sp ≡ m.core.ptrs.sp) w (λ n q h. h) (λ n dp h. h) (λ n r pc h. h) (But is_sp)
    (λ n p v g h. sp_put w n p v g ∙ h) m l s a (but_in w is_sp m s a e) (but-after w is_sp m s a e) refl
