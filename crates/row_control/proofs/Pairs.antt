-- What holds at each of two rows holds at a row that is one of them.
use mathlib.Core.Path.{◌≡◌}
use mathlib.Core.Bool.{true}
use mathlib.Core.List.{[], ◌∷◌}
use Prim.Native.Nat.{ℕ}
use Rattle.laws.specs.Among.{among}
use Rattle.laws.proofs.Among.{end, ◌by◌&◌, at_each}

pub at_both : (P : ℕ → Type 0) (j k n : ℕ) → P j → P k → among (j ∷ k ∷ []) n ≡ true → P n
at_both P j k n p q h = at_each P (j ∷ k ∷ []) (j by p & k by q & end) n h
