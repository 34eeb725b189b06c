-- A byte put at an address that had none: its bit is set, and every other byte and bit is as it was.
use mathlib.Core.Path.{◌≡◌, refl, ap, ◌∙◌}
use mathlib.Core.Bool.{Bool, true, false}
use mathlib.Core.List.{List}
use Prim.Native.Nat.{ℕ, ◌+◌, ◌/◌, ◌%◌, ◌^◌, ◌<◌}
use native.Mathlib.Decide.{ℕ_discrete}
use native.Mathlib.Omega.{arith}
use borrow.Author.Tests.{eq-eqb, ne_eqb, eqb-false}
use lib.Dec.{T, eqb, eqb→eq, ltb, ltb→lt}
use lib.ListN.{length, get_or, set, length-set}
use lib.Seq.{get_or-set_same, get_or-set_other}
use Rattle.laws.specs.Choice.{pick, both}
use Rattle.laws.proofs.Computed.{implies, below, at, modus, true→T, both_left, both_right}
use Rattle.bits.specs.Bits.{has_bit}
use Rattle.hex_reader.specs.Work.{work_size, bit_of, Puts}

-- a bit that was clear is added, and the others stay
abbrev adds : ℕ → ℕ → ℕ → Bool
adds n i j =
    implies (eqb (n / 2 ^ i % 2) 0) (both (ltb (n + 2 ^ i) 256) (eqb ((n + 2 ^ i) / 2 ^ j % 2) (pick (eqb i j) 1 (n / 2 ^ j % 2))))

abbrev all_adds : Bool
all_adds = below 256 (λ n. below 8 (λ i. below 8 (λ j. adds n i j)))

added : T all_adds → (n i j : ℕ) → n < 256 → i < 8 → j < 8 → n / 2 ^ i % 2 ≡ 0 → T (both (ltb (n + 2 ^ i) 256) (eqb ((n + 2 ^ i) / 2 ^ j % 2) (pick (eqb i j) 1 (n / 2 ^ j % 2))))
added t n i j hn hi hj e =
    modus (eqb (n / 2 ^ i % 2) 0) _ (at (λ j. adds n i j) 8 (at (λ i. below 8 (λ j. adds n i j)) 8 (at (λ n. below 8 (λ i. below 8 (λ j. adds n i j))) 256 t n hn) i hi) j hj) (true→T (eq-eqb (n / 2 ^ i % 2) 0 e))

clear_bit : (m : ℕ) → eqb (m % 2) 1 ≡ false → m % 2 ≡ 0
clear_bit m e = omega (arith, eqb-false (m % 2) 1 e)

module _ (n i j : ℕ) (hn : n < 256) (hi : i < 8) (hj : j < 8) (c : has_bit n (2 ^ i) ≡ false) where
  digits : T (both (ltb (n + 2 ^ i) 256) (eqb ((n + 2 ^ i) / 2 ^ j % 2) (pick (eqb i j) 1 (n / 2 ^ j % 2))))
  digits = added tt n i j hn hi hj (clear_bit (n / 2 ^ i) c)

  pub sum_fits : n + 2 ^ i < 256
  sum_fits = ltb→lt (n + 2 ^ i) 256 (both_left (ltb (n + 2 ^ i) 256) _ digits)

  digit : (n + 2 ^ i) / 2 ^ j % 2 ≡ pick (eqb i j) 1 (n / 2 ^ j % 2)
  digit = eqb→eq ((n + 2 ^ i) / 2 ^ j % 2) (pick (eqb i j) 1 (n / 2 ^ j % 2)) (both_right (ltb (n + 2 ^ i) 256) _ digits)

  bit-same : i ≡ j → has_bit (n + 2 ^ i) (2 ^ j) ≡ true
  bit-same e = ap (λ (d : ℕ). eqb d 1) (rw (eq-eqb i j e) at digit)

  bit-else : (i ≡ j → ⊥) → has_bit (n + 2 ^ i) (2 ^ j) ≡ has_bit n (2 ^ j)
  bit-else ne = ap (λ (d : ℕ). eqb d 1) (rw (ne_eqb i j ne) at digit)

module _ (image_size : ℕ) (w : List ℕ) (a byte : ℕ) (size : length w ≡ work_size image_size) (h : a < image_size) (c : bit_of image_size w a ≡ false) (small : get_or w (image_size + a / 8) 0 < 256) where
  abbrev n : ℕ
  n = get_or w (image_size + a / 8) 0

  unfoldable pub stored : List ℕ
  stored = set (set w a byte) (image_size + a / 8) (n + 2 ^ (a % 8))

  stored-length : length stored ≡ length w
  unfolding stored
  stored-length = length-set (set w a byte) (image_size + a / 8) (n + 2 ^ (a % 8)) ∙ length-set w a byte

  stored-bits : get_or stored (image_size + a / 8) 0 ≡ n + 2 ^ (a % 8)
  unfolding stored
  stored-bits = get_or-set_same (set w a byte) (image_size + a / 8) (n + 2 ^ (a % 8)) 0 (omega (arith, length-set w a byte))

  stored_other : (x : ℕ) → (x ≡ a → ⊥) → (x ≡ image_size + a / 8 → ⊥) → get_or stored x 0 ≡ get_or w x 0
  unfolding stored
  stored_other x p q = get_or-set_other (set w a byte) (image_size + a / 8) x (n + 2 ^ (a % 8)) 0 q ∙ get_or-set_other w a x byte 0 p

  stored-byte : get_or stored a 0 ≡ byte
  unfolding stored
  stored-byte = get_or-set_other (set w a byte) (image_size + a / 8) a (n + 2 ^ (a % 8)) 0 (λ e. omega arith) ∙ get_or-set_same w a byte 0 (omega arith)

  other-bit : (x : ℕ) → x < image_size → (x ≡ a → ⊥) → Dec (x / 8 ≡ a / 8) → bit_of image_size stored x ≡ bit_of image_size w x
  other-bit x l ne (yes e) =
      let k : image_size + x / 8 ≡ image_size + a / 8 = omega arith in
      rw (k, stored-bits) (bit-else n (a % 8) (x % 8) small (omega arith) (omega arith) c (λ f. ne (omega arith)))
  other-bit x l ne (no d) =
      ap (λ (m : ℕ). has_bit m (2 ^ (x % 8))) (stored_other (image_size + x / 8) (λ e. omega arith) (λ e. d (omega arith)))

  pub puts : Puts image_size w stored a byte
  puts =
      record {
        size = stored-length;
        byte_there = stored-byte;
        byte_other = λ x l ne. stored_other x ne (λ e. omega arith);
        bit_there = rw stored-bits (bit-same n (a % 8) (a % 8) small (omega arith) (omega arith) c refl);
        bit_other = λ x l ne. other-bit x l ne (ℕ_discrete (x / 8) (a / 8));
      }
