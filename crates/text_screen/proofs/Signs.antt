-- One sign more and one line more, and a picture goes by its dots alone.
use Prim.Native.Nat.{ℕ, zero, suc, ◌+◌, ◌<◌}
use mathlib.Core.Path.{◌≡◌, refl, sym}
use mathlib.Core.Bool.{Bool}
use mathlib.Core.List.{List, [], ◌∷◌, ◌++◌, append_assoc, append-nil}
use native.Mathlib.Numerals.{add-one}
use native.Mathlib.Omega.{arith}
use Rattle.text_screen.specs.Screen.{sign_of, signs_of, lines_of}
use Rattle.text_screen.specs.declared.Form.{Form}

signs_more : (form : Form) (dot : ℕ → Bool) (n : ℕ) → signs_of form dot (n + 1) ≡ signs_of form dot n ++ (sign_of form (dot n) ∷ [])
unfolding signs_of
signs_more form dot n = rw (add-one) refl

lines_more : (form : Form) (dot : ℕ → ℕ → Bool) (n : ℕ) → lines_of form dot (n + 1) ≡ lines_of form dot n ++ (signs_of form (dot n) 40 ++ (10 ∷ []))
unfolding lines_of
lines_more form dot n = rw (add-one) refl

module _ (form : Form) (old : List ℕ) where
  pub no_sign : (dot : ℕ → Bool) → old ≡ old ++ signs_of form dot 0
  unfolding signs_of
  no_sign dot = sym (append-nil old)

  pub no_line : (dot : ℕ → ℕ → Bool) → old ≡ old ++ lines_of form dot 0
  unfolding lines_of
  no_line dot = sym (append-nil old)

  pub one_sign : (dot : ℕ → Bool) (n : ℕ) (out new : List ℕ) (sign : ℕ) → out ≡ old ++ signs_of form dot n → sign ≡ sign_of form (dot n) → new ≡ out ++ (sign ∷ [])
      → new ≡ old ++ signs_of form dot (n + 1)
  one_sign dot n out new sign before right last = rw (last, before, right, signs_more form dot n) (append_assoc old (signs_of form dot n) (sign_of form (dot n) ∷ []))

  pub one_line : (dot : ℕ → ℕ → Bool) (n : ℕ) (out new : List ℕ) → out ≡ old ++ lines_of form dot n → new ≡ out ++ (signs_of form (dot n) 40 ++ (10 ∷ []))
      → new ≡ old ++ lines_of form dot (n + 1)
  one_line dot n out new before last = rw (last, before, lines_more form dot n) (append_assoc old (lines_of form dot n) (signs_of form (dot n) 40 ++ (10 ∷ [])))

  -- a picture after its opening
  pub picture : (f g : ℕ → ℕ → Bool) (a out new : List ℕ) → lines_of form f 8 ≡ lines_of form g 8 → out ≡ old ++ a → new ≡ out ++ lines_of form f 8
      → new ≡ old ++ (a ++ lines_of form g 8)
  picture f g a out new same before last = rw (last, before, same) (append_assoc old a (lines_of form g 8))

same_signs : (form : Form) (f g : ℕ → Bool) (n : ℕ) → ((s : ℕ) → s < n → f s ≡ g s) → signs_of form f n ≡ signs_of form g n
unfolding signs_of
same_signs form f g zero e = refl
same_signs form f g (suc n) e = rw (same_signs form f g n (λ s h. e s (omega arith)), e n (omega arith)) refl

pub same_lines : (form : Form) (f g : ℕ → ℕ → Bool) (n : ℕ) → ((c s : ℕ) → c < n → s < 40 → f c s ≡ g c s) → lines_of form f n ≡ lines_of form g n
unfolding lines_of
same_lines form f g zero e = refl
same_lines form f g (suc n) e =
    rw (same_lines form f g n (λ c s h k. e c s (omega arith) k), same_signs form (f n) (g n) 40 (λ s k. e n s (omega arith) k)) refl
