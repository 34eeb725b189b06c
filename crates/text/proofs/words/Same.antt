-- What decides that two texts are equal is `same_text`.
use mathlib.Core.Path.{◌≡◌, refl, sym, ap, ◌∙◌}
use mathlib.Core.Bool.{Bool, true, false}
use mathlib.Core.List.{List, [], ◌∷◌}
use Prim.Native.Nat.{ℕ}
use lib.Dec.{T, eqb, eqb→eq}
use borrow.Author.Tests.{eq-eqb}
use Rattle.laws.proofs.Computed.{true→T, both_left, both_right}
use Rattle.text.specs.Same.{same_text}

pub text_equal : (a b : List ℕ) → T (same_text a b) → a ≡ b
text_equal [] [] t = refl
text_equal [] (d ∷ ds) t = absurd t
text_equal (c ∷ cs) [] t = absurd t
text_equal (c ∷ cs) (d ∷ ds) t =
    rw (eqb→eq c d (both_left (eqb c d) (same_text cs ds) t), text_equal cs ds (both_right (eqb c d) (same_text cs ds) t))

text_self : (a : List ℕ) → same_text a a ≡ true
text_self [] = refl
text_self (c ∷ cs) = rw (eq-eqb c c refl) (text_self cs)

same_by : (a b : List ℕ) (r t : Bool) → same_text a b ≡ t → (r ≡ true → a ≡ b) → (a ≡ b → r ≡ true) → r ≡ t
same_by a b r true e f g = g (text_equal a b (true→T e))
same_by a b true false e f g = sym (text_self a) ∙ (ap (same_text a) (f refl) ∙ e)
same_by a b false false e f g = refl

pub same_is : {a b : List ℕ} {r : Bool} → (r ≡ true → a ≡ b) × (a ≡ b → r ≡ true) → r ≡ same_text a b
same_is {a} {b} {r} s = same_by a b r (same_text a b) refl s.0 s.1
