-- The value of digits, a digit at a time and at most a bound.
use mathlib.Core.Path.{◌≡◌, refl, sym, ◌∙◌}
use mathlib.Core.Bool.{Bool, true, false}
use mathlib.Core.List.{List, [], ◌∷◌}
use Prim.Native.Nat.{ℕ, suc, ◌+◌, ◌*◌, ◌<◌, ◌≤◌, min}
use native.Mathlib.Nat.{mul-le-mul, le-mul_of_pos_right, min-eq_right}
use native.Mathlib.Decide.{dec_lt}
use native.Mathlib.Numerals.{add-one}
use native.Mathlib.Omega.{arith}
use borrow.Author.Tests.{lt-ltb, le-ltb, le-leb}
use lib.Dec.{ltb}
use lib.ListN.{length, get_or, drop, drop_of_length-le}
use lib.Seq.{drop-cons}
use Rattle.laws.specs.Choice.{pick}
use Rattle.text.specs.Hexadecimal.{digit_of, digit_to}
use Rattle.text.specs.Words.{all_digits, is_number, value_after, word_value, number_up_to, number_of, word_address}
use Rattle.std.specs.Prelude.{Option, Some, None}
use Rattle.std.proofs.lemmas.Bool.{ltb-true}
use Rattle.std.proofs.lemmas.Option.{cond_some}
use Rattle.std.proofs.lemmas.Bool.Decides.{nat_tests}

-- what a digit to a base says
pub digit_is : (base c d : ℕ) → Some d ≡ digit_to base c → (digit_of c < base) × (d ≡ digit_of c)
digit_is base c d e = let h = cond_some (ltb (digit_of c) base) (digit_of c) d (sym e) in (ltb-true (digit_of c) base h.0, sym h.1)

pub no_digit : (base c : ℕ) → None ≡ digit_to base c → base ≤ digit_of c
no_digit base c e = grind (arith, nat_tests)

pub product_small : (v base : ℕ) → v ≤ 1000000000000000000 → base ≤ 16 → v * base ≤ 16000000000000000000
product_small v base g h = mul-le-mul g h

-- digits make no value smaller, so the bound may be laid on at each of them
value_up : (base : ℕ) (l : List ℕ) (v : ℕ) → 0 < base → v ≤ value_after base v l
value_up base [] v h = omega arith
value_up base (c ∷ l) v h = omega (arith, le-mul_of_pos_right v h, value_up base l (v * base + digit_of c) h)

bounded : (cap base : ℕ) (l : List ℕ) (x : ℕ) → 0 < base → Dec (x < cap) → min cap (value_after base (min cap x) l) ≡ min cap (value_after base x l)
bounded cap base l x h (yes b) = let e : min cap x ≡ x = omega arith in rw e
bounded cap base l x h (no b) = omega (arith, value_up base l (min cap x) h, value_up base l x h)

-- the digits before i make the value v, which is cap at most
pub record Parsed (cap base : ℕ) (word : List ℕ) (v i : ℕ) : Type 0 where
  pub digits : all_digits base word ≡ all_digits base (drop i word)
  pub value : min cap (word_value base word) ≡ min cap (value_after base v (drop i word))
  pub small : v ≤ cap

pub parsed_none : (cap base : ℕ) (word : List ℕ) → Parsed cap base word 0 0
parsed_none cap base word = record { digits = refl; value = refl; small = omega arith }

module _ {cap base : ℕ} {word : List ℕ} {v i : ℕ} (p : Parsed cap base word v i) where
  pub parsed-more : 0 < base → i < length word → digit_of (get_or word i 0) < base → Parsed cap base word (min cap (v * base + digit_of (get_or word i 0))) (i + 1)
  parsed-more h l d =
      record {
        digits = p.digits ∙ rw (drop-cons word i 0 l, lt-ltb (digit_of (get_or word i 0)) base d, add-one);
        value =
            p.value
            ∙ rw (drop-cons word i 0 l, add-one) (sym (bounded cap base (drop (suc i) word) (v * base + digit_of (get_or word i 0)) h (dec_lt (v * base + digit_of (get_or word i 0)) cap)));
        small = omega arith;
      }

  pub parsed-bad : i < length word → base ≤ digit_of (get_or word i 0) → all_digits base word ≡ false
  parsed-bad l d = p.digits ∙ rw (drop-cons word i 0 l, le-ltb (digit_of (get_or word i 0)) base d)

  pub parsed-digits : length word ≤ i → all_digits base word ≡ true
  parsed-digits l = p.digits ∙ rw (drop_of_length-le word l)

  pub parsed-value : length word ≤ i → min cap (word_value base word) ≡ v
  parsed-value l = p.value ∙ (rw (drop_of_length-le word l) (min-eq_right p.small))

up_to_most : (t : Bool) (most x v : ℕ) → pick t (Some (min most x)) None ≡ Some v → v ≤ most
up_to_most true most x v e = let f : v ≡ min most x = cc in omega arith
up_to_most false most x v e = absurd cc

pub number_up_to_8192 : (base : ℕ) (word : List ℕ) (v : ℕ) → number_of base word ≡ Some v → v ≤ 8192
unfolding number_up_to
number_up_to_8192 base word v e = up_to_most (is_number base word) 8192 (word_value base word) v e

-- an address by the number that its digits make
abbrev pub in_image : Option ℕ → Option ℕ
in_image (Some v) = pick (ltb v 8192) (Some v) None
in_image None = None

bounded_address : (v : ℕ) → Dec (v < 8192) → in_image (Some v) ≡ in_image (Some (min 8192 v))
bounded_address v (yes b) = let e : min 8192 v ≡ v = omega arith in rw e
bounded_address v (no b) = rw (le-ltb v 8192 (omega arith), le-ltb (min 8192 v) 8192 (omega arith))

picked_address : (t : Bool) (v : ℕ) → pick t (in_image (Some v)) None ≡ in_image (pick t (Some (min 8192 v)) None)
picked_address true v = bounded_address v (dec_lt v 8192)
picked_address false v = refl

pub address_of_lem : (word : List ℕ) → length word ≤ 4 → in_image (number_of 16 word) ≡ word_address word
unfolding number_up_to word_address
address_of_lem word h = rw (le-leb (length word) 4 h) (sym (picked_address (is_number 16 word) (word_value 16 word)))
