-- That the forty bytes with the later ones show a record's dots, and that the dots determine the buffer.
use Prim.Native.Nat.{ℕ, zero, suc, ◌+◌, ◌-◌, ◌*◌, ◌/◌, ◌%◌, ◌^◌, ◌<◌, ◌≤◌}
use mathlib.Core.Bool.{Bool, true, false}
use mathlib.Core.List.{List, ◌++◌}
use mathlib.Core.Path.{◌≡◌, refl, sym, ap, ◌∙◌}
use native.Mathlib.Decide.{dec_lt}
use native.Mathlib.Omega.{arith}
use lib.Dec.{eqb, eqb→eq}
use lib.ListN.{length, get_or, drop, length-append, length-drop, get_or-append}
use lib.Seq.{ext_get_or, get_or-drop, drop_at}
use Rattle.laws.proofs.Computed.{at}
use Rattle.bits.specs.Bits.{has_bit, bit_of}
use Rattle.record.specs.Valid.{Nibbles}
use Rattle.record.specs.declared.Machine.{Machine}
use Rattle.display.specs.Bytes.{byte_in}
use Rattle.display.specs.Display.{is_on, Shows}
use Rattle.display.proofs.Bytes.{bytes_in, bytes_at_lem, bytes_length}
use Rattle.display.proofs.Dots.{dots_in}

byte_lt : (on : Bool) (ram : List ℕ) (j : ℕ) → Nibbles ram → j < 40 → byte_in on ram j < 256
byte_lt true ram j n h =
    omega (arith, n.each (0x20 + 16 * (j / 5) + 2 * (j % 5)) (omega arith), n.each (0x20 + 16 * (j / 5) + 2 * (j % 5) + 1) (omega arith))
byte_lt false ram j n h = omega arith

module _ (m : Machine) (b a : List ℕ) (n : Nibbles m.ram) (room : 40 ≤ length b) (e : a ≡ bytes_in (is_on m) m.ram ++ drop 40 b) where
  abbrev forty : List ℕ
  forty = bytes_in (is_on m) m.ram

  size_is : length forty ≡ 40
  size_is = bytes_length (is_on m) m.ram

  first : (j : ℕ) → j < 40 → get_or a j 0 ≡ get_or forty j 0
  first j h = ap (λ (l : List ℕ). get_or l j 0) e ∙ get_or-append forty (drop 40 b) 0 j (rw size_is h)

  pub shows : Shows m b a
  shows =
      record {
        dots = λ c s hc hs. ap (λ (byte : ℕ). has_bit byte (2 ^ (s % 8))) (first (5 * c + s / 8) (omega arith)) ∙ dots_in (is_on m) m.ram c s n hc hs;
        bytes = λ j h. rw (first j h, bytes_at_lem (is_on m) m.ram j h) (omega (arith, byte_lt (is_on m) m.ram j n h));
        later = ap (drop 40) e ∙ drop_at forty (drop 40 b) 40 size_is;
        size = ap length e ∙ (length-append forty (drop 40 b) ∙ omega (arith, size_is, length-drop 40 b));
      }

-- a number by its lowest bits
abbrev by_bits : ℕ → (ℕ → Bool) → ℕ
by_bits zero f = 0
by_bits (suc n) f = bit_of (f n) * 2 ^ n + by_bits n f

abbrev is_by_bits : ℕ → Bool
is_by_bits x = eqb x (by_bits 8 (λ t. has_bit x (2 ^ t)))

by_bits_lem : (x : ℕ) → x < 256 → x ≡ by_bits 8 (λ t. has_bit x (2 ^ t))
by_bits_lem x h = eqb→eq x _ (at is_by_bits 256 tt x h)

same_bits_lem : (n : ℕ) (f g : ℕ → Bool) → ((t : ℕ) → t < n → f t ≡ g t) → by_bits n f ≡ by_bits n g
same_bits_lem zero f g e = refl
same_bits_lem (suc n) f g e = rw (e n (omega arith), same_bits_lem n f g (λ t h. e t (omega arith)))

-- a byte is its eight bits
same_byte : (x y : ℕ) → x < 256 → y < 256 → ((t : ℕ) → t < 8 → has_bit x (2 ^ t) ≡ has_bit y (2 ^ t)) → x ≡ y
same_byte x y hx hy e = by_bits_lem x hx ∙ (same_bits_lem 8 _ _ e ∙ sym (by_bits_lem y hy))

module _ {m : Machine} {b a z : List ℕ} (p : Shows m b a) (q : Shows m b z) where
  -- bit t of byte i is dot 8(i mod 5) + t of row i/5
  same-dot : (i t : ℕ) → i < 40 → t < 8 → has_bit (get_or a i 0) (2 ^ t) ≡ has_bit (get_or z i 0) (2 ^ t)
  same-dot i t h l =
      let place : 5 * (i / 5) + (8 * (i % 5) + t) / 8 ≡ i = omega arith in
      let bit : (8 * (i % 5) + t) % 8 ≡ t = omega arith in
      rw (place, bit) at (p.dots (i / 5) (8 * (i % 5) + t) (omega arith) (omega arith) ∙ sym (q.dots (i / 5) (8 * (i % 5) + t) (omega arith) (omega arith)))

  same_at : (i : ℕ) → Dec (i < 40) → get_or a i 0 ≡ get_or z i 0
  same_at i (yes h) = same_byte _ _ (p.bytes i h) (q.bytes i h) (λ t l. same-dot i t h l)
  same_at i (no h) =
      let later : 40 + (i - 40) ≡ i = omega arith in
      rw later at (sym (get_or-drop 40 a (i - 40) 0) ∙ (ap (λ (l : List ℕ). get_or l (i - 40) 0) (p.later ∙ sym q.later) ∙ get_or-drop 40 z (i - 40) 0))

  pub one-buffer : a ≡ z
  one-buffer = ext_get_or 0 a z (p.size ∙ sym q.size) (λ i h. same_at i (dec_lt i 40))
