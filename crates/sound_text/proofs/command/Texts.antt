-- A text is one of the commands' words, or not: from its first characters.
use Prim.Native.Nat.{ℕ, zero, suc, ◌<◌}
use mathlib.Core.Path.{◌≡◌, refl, ap}
use mathlib.Core.List.{List, [], ◌∷◌}
use native.Mathlib.Nat.{not-suc-le-zero}
use native.Mathlib.Omega.{arith}
use lib.Dec.{eqb}
use lib.ListN.{length, take}
use Rattle.laws.specs.Choice.{both}
use Rattle.text.specs.Digits.{characters}
use Rattle.text.specs.Same.{same_text}
use Rattle.sound_text.specs.Commands.{bare, port, numbered}

-- a shorter text is told from the first characters
same_short : (m : ℕ) (w k : List ℕ) → length k < m → same_text (take m w) k ≡ same_text w k
same_short zero w k h = absurd (not-suc-le-zero h)
same_short (suc m) [] k h = refl
same_short (suc m) (c ∷ cs) [] h = refl
same_short (suc m) (c ∷ cs) (d ∷ ds) h = ap (both (eqb c d)) (same_short m cs ds (omega arith))

module _ (w : List ℕ) where
  pub bare-short : bare (take 8 w) ≡ bare w
  unfolding bare
  bare-short =
      rw (same_short 8 w (characters "sleep") (omega arith), same_short 8 w (characters "wake") (omega arith), same_short 8 w (characters "reset") (omega arith))

  pub numbered-short : (n : ℕ) → numbered (take 8 w) n ≡ numbered w n
  unfolding numbered port
  numbered-short n =
      rw (same_short 8 w (characters "advance") (omega arith), same_short 8 w (characters "p30") (omega arith), same_short 8 w (characters "p24") (omega arith), same_short 8 w (characters "p23") (omega arith))
