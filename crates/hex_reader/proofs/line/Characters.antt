-- A line's tests, a character or a pair at a time.
use mathlib.Core.Path.{◌≡◌, refl}
use mathlib.Core.Bool.{Bool, true, false}
use mathlib.Core.List.{List, [], ◌∷◌, ◌++◌}
use Prim.Native.Nat.{ℕ, suc, ◌+◌, ◌<◌}
use native.Mathlib.Omega.{arith}
use lib.Dec.{ltb→lt}
use lib.ListN.{length, get_or}
use borrow.Author.Tests.{lt-ltb}
use Rattle.std.specs.Prelude.{ltb, ◌↔◌, IsTrue, EachIndex, Some, None, is_some}
use Rattle.laws.specs.Choice.{pick}
use Rattle.laws.proofs.Computed.{true→T}
use Rattle.text.specs.Words.{all_digits}
use Rattle.text.specs.Hexadecimal.{digit_of, digit_to}
use Rattle.hex_reader.specs.Record.{byte_of, bytes_of, total}
use Rattle.hex_reader.proofs.line.Pairs.{digit-in}

some-digit : (c : ℕ) (t : Bool) → ltb (digit_of c) 16 ≡ t → is_some (pick t (Some (digit_of c)) None) ≡ true → digit_of c < 16
some-digit c true e h = ltb→lt (digit_of c) 16 (true→T e)
some-digit c false e h = cc

each_digit : (l : List ℕ) → EachIndex l (λ k. is_some (digit_to 16 (get_or l k 0)) ≡ true) → all_digits 16 l ≡ true
each_digit [] f = refl
each_digit (c ∷ l) f = rw (lt-ltb (digit_of c) 16 (some-digit c (ltb (digit_of c) 16) refl (f 0 (omega arith)))) (each_digit l (λ k h. f (suc k) (omega arith)))

no_digits : (l : List ℕ) (b : Bool) → all_digits 16 l ≡ b → (EachIndex l (λ k. is_some (digit_to 16 (get_or l k 0)) ≡ true) → ⊥) → false ≡ b
no_digits l true e n = absurd (n (λ k h. rw (lt-ltb (digit_of (get_or l k 0)) 16 (digit-in l k e h))))
no_digits l false e n = refl

pub digits_by : (r : Bool) (l : List ℕ) → (IsTrue r ↔ EachIndex l (λ k. is_some (digit_to 16 (get_or l k 0)) ≡ true)) → r ≡ all_digits 16 l
digits_by true l h = rw (each_digit l (h.0 refl))
digits_by false l h = no_digits l (all_digits 16 l) refl (λ f. let e = h.1 f in absurd (cc))

-- the pair in front is added
pub pair_in : (x rest : List ℕ) → length x ≡ 2 → total (bytes_of (x ++ rest)) ≡ byte_of (get_or x 0 0) (get_or x 1 0) + total (bytes_of rest)
pair_in [] rest h = absurd (omega arith)
pair_in (c ∷ []) rest h = absurd (omega arith)
pair_in (c ∷ d ∷ []) rest h = refl
pair_in (c ∷ d ∷ e ∷ x) rest h = absurd (omega arith)

pub no_pair : (l : List ℕ) → length l < 2 → total (bytes_of l) ≡ 0
no_pair [] h = refl
no_pair (c ∷ []) h = refl
no_pair (c ∷ d ∷ l) h = absurd (omega arith)
