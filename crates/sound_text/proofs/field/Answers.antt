-- `sound_text::field` meets its contract.
use Prim.Native.Nat.{◌≤◌}
use borrow.Author.Rules.{rules}
use native.Mathlib.Omega.{arith}
use Rattle.text.specs.Digits.{places_of}
use Rattle.text.proofs.digits.Numbers.{places_up_to}
use Rattle.sound_text.proofs.field.Goals as goal

pub decimal-requires : goal.decimal-requires
decimal-requires g c = let k : places_of c.from.result ≤ 3 = places_up_to 2 c.from.result (omega arith) in search rules

pub returns-clause-size : goal.returns-clause-size
returns-clause-size g c = let k : places_of c.from.result ≤ 3 = places_up_to 2 c.from.result (omega arith) in omega (arith, c.decimal.ensures.size, c.put_text.ensures.size)
