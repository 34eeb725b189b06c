-- What the tests of SP say of it as a number.
use mathlib.Core.Bool.{true}
use mathlib.Core.Path.{◌≡◌}
use lib.Dec.{leb, leb→le}
use Rattle.laws.proofs.Computed.{both_left, both_right, true→T}
use Rattle.record.specs.Stack.{can_push, can_pop, CanPush, CanPop}
use Rattle.record.specs.declared.Core.{Core}

module _ {m : Core} where
  pub can-push : can_push m ≡ true → CanPush m
  can-push e =
      let sp = m.ptrs.sp in
      record {
        above = leb→le 1 sp (both_left (leb 1 sp) (leb sp 13) (true→T e));
        below = leb→le sp 13 (both_right (leb 1 sp) (leb sp 13) (true→T e));
      }

  pub can-pop : can_pop m ≡ true → CanPop m
  can-pop e = record { below = leb→le m.ptrs.sp 12 (true→T e) }
