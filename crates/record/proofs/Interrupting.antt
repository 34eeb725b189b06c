-- The one constructor of the interrupt bits: what it makes is valid, and of valid ones it makes the same.
use Prim.Native.Nat.{ℕ, ◌/◌, ◌%◌, ◌<◌}
use mathlib.Core.Bool.{Bool}
use mathlib.Core.Path.{◌≡◌, refl}
use Rattle.record.specs.Valid.{ValidInterrupts}
use Rattle.record.specs.With.{interrupts_of}
use Rattle.record.specs.declared.Interrupts.{Interrupts}

pub made_valid : {ei : Bool} {il mask : ℕ} → il < 64 → il / 16 % 2 ≡ 0 → mask < 16 → ValidInterrupts (interrupts_of ei il mask)
made_valid hi h4 hm = record { il = hi; il4 = h4; mask = hm; due = refl }

pub made_same : (i : Interrupts) → ValidInterrupts i → interrupts_of i.ei i.il i.mask ≡ i
made_same i v = rw (← v.due)
