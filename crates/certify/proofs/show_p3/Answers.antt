-- `certify::show_p3` meets its contract.
use mathlib.Core.Path.{ap}
use mathlib.Core.List.{List}
use Prim.Native.Nat.{ℕ, ◌≤◌}
use borrow.Author.Rules.{rules}
use native.Mathlib.Omega.{arith}
use lib.ListN.{length}
use Rattle.text.specs.Digits.{places_of}
use Rattle.text.proofs.digits.Numbers.{places_up_to}
use Rattle.certify.proofs.show_p3.Goals as goal

pub decimal-requires : goal.decimal-requires
decimal-requires c = let k : places_of c.from.result ≤ 3 = places_up_to 2 c.from.result (omega arith) in search rules

pub put-requires : goal.put-requires
put-requires c =
    let k : places_of c.from.result ≤ 3 = places_up_to 2 c.from.result (omega arith) in
    let none = ap (λ (l : List ℕ). length l) c.new-out.ensures in
    omega (arith, none, c.decimal.ensures.size, c.put_text.ensures.size)
