-- Any two answers of is_valid that conform are equal.
use mathlib.Core.Bool.{Bool, true, false}
use mathlib.Core.Path.{◌≡◌, refl}
use Rattle.laws.specs.Decides.{Decides}
use Rattle.device.specs.declared.Device.{Device}
use Rattle.record.specs.Valid.{Valid}
use Rattle.record.specs.declared.Machine.{Machine}

one_decision : {P : Type 0} (a b : Bool) → Decides a P → Decides b P → a ≡ b
one_decision true true d e = refl
one_decision false false d e = refl
one_decision true false d e = absurd (e.complete (d.sound tt))
one_decision false true d e = absurd (d.complete (e.sound tt))

pub one_answer : (d : Device) (m : Machine) (a b : Bool) → Decides a (Valid d m) → Decides b (Valid d m) → a ≡ b
one_answer d m = one_decision
