-- A buffer that holds what records give, and of one more record the bytes so far.
use mathlib.Core.Path.{◌≡◌, sym, ap, ◌∙◌}
use mathlib.Core.Bool.{Bool, true, false}
use mathlib.Core.List.{List, [], ◌∷◌}
use Prim.Native.Nat.{ℕ, ◌+◌, ◌-◌, ◌<◌, ◌≤◌}
use native.Mathlib.Decide.{dec_lt, ℕ_discrete}
use native.Mathlib.Omega.{arith}
use borrow.Author.Tests.{lt-ltb, le-ltb, le-leb, lt-leb}
use lib.Dec.{leb}
use lib.ListN.{length, get_or, take}
use lib.Seq.{take_all, length-take-le, get_or-take}
use Rattle.laws.specs.Choice.{either}
use Rattle.laws.proofs.Choices.{both_false}
use Rattle.hex_reader.specs.Given.{Given, gives, is_given, byte_at}
use Rattle.hex_reader.specs.Work.{bit_of, Holds, Puts}

module _ (a : ℕ) (bytes : List ℕ) (x : ℕ) where
  abbrev d : Given
  d = record { address = a; bytes = bytes }

  pub gives-in : a ≤ x → x < a + length bytes → gives d x ≡ true
  gives-in g h = rw (le-leb a x g, lt-ltb x (a + length bytes) h)

  pub gives-before : x < a → gives d x ≡ false
  gives-before h = rw (lt-leb a x h)

  pub gives_after : a + length bytes ≤ x → gives d x ≡ false
  gives_after h = rw (le-ltb x (a + length bytes) h, both_false (leb a x))

-- of a record the first i bytes
abbrev pub front : ℕ → List ℕ → ℕ → Given
front a bytes i = record { address = a; bytes = take i bytes }

gives_none : (a x : ℕ) → Dec (x < a) → gives (record { address = a; bytes = [] }) x ≡ false
gives_none a x (yes h) = gives-before a [] x h
gives_none a x (no h) = gives_after a [] x (omega arith)

-- none of it yet
pub holds_none : {image_size : ℕ} {w : List ℕ} {ds : List Given} (a : ℕ) (bytes : List ℕ) → Holds image_size w ds → Holds image_size w (front a bytes 0 ∷ ds)
holds_none a bytes h =
    record {
      size = h.size;
      bytes = λ x l. rw (gives_none a x (dec_lt x a)) (h.bytes x l);
      bits = λ x l. rw (gives_none a x (dec_lt x a)) (h.bits x l);
    }

module _ (a : ℕ) (bytes : List ℕ) (i : ℕ) (more : i < length bytes) where
  size-now : length (take i bytes) ≡ i
  size-now = length-take-le i bytes (omega arith)

  size-next : length (take (i + 1) bytes) ≡ i + 1
  size-next = length-take-le (i + 1) bytes (omega arith)

  module _ (ds : List Given) (x : ℕ) where
    -- at the next byte's address the record gives it
    there : x ≡ a + i → gives (front a bytes (i + 1)) x ≡ true
    there e = gives-in a (take (i + 1) bytes) x (omega arith) (omega (arith, size-next))

    byte_next : x ≡ a + i → byte_at (front a bytes (i + 1) ∷ ds) x ≡ get_or bytes i 0
    byte_next e = let k : x - a ≡ i = omega arith in rw (there e, k) (get_or-take (i + 1) bytes i 0 (omega arith))

    -- at every other address it gives what it gave
    same_by : (x ≡ a + i → ⊥) → Dec (x < a) → Dec (x < a + i) → (gives (front a bytes (i + 1)) x ≡ gives (front a bytes i) x) × (byte_at (front a bytes (i + 1) ∷ ds) x ≡ byte_at (front a bytes i ∷ ds) x)
    same_by ne (yes l) t =
        let f = gives-before a (take (i + 1) bytes) x l in
        let g = gives-before a (take i bytes) x l in (f ∙ sym g, rw (f, g))
    same_by ne (no l) (yes m) =
        let f = gives-in a (take (i + 1) bytes) x (omega arith) (omega (arith, size-next)) in
        let g = gives-in a (take i bytes) x (omega arith) (omega (arith, size-now)) in
        (f ∙ sym g, rw (f, g) (get_or-take (i + 1) bytes (x - a) 0 (omega arith) ∙ sym (get_or-take i bytes (x - a) 0 (omega arith))))
    same_by ne (no l) (no m) =
        let f = gives_after a (take (i + 1) bytes) x (omega (arith, size-next)) in
        let g = gives_after a (take i bytes) x (omega (arith, size-now)) in (f ∙ sym g, rw (f, g))

    same : (x ≡ a + i → ⊥) → (gives (front a bytes (i + 1)) x ≡ gives (front a bytes i) x) × (byte_at (front a bytes (i + 1) ∷ ds) x ≡ byte_at (front a bytes i ∷ ds) x)
    same ne = same_by ne (dec_lt x a) (dec_lt x (a + i))

  module _ {image_size : ℕ} (w m : List ℕ) (ds : List Given) (h : Holds image_size w (front a bytes i ∷ ds)) (p : Puts image_size w m (a + i) (get_or bytes i 0)) where
    next-byte : (x : ℕ) → x < image_size → Dec (x ≡ a + i) → get_or m x 0 ≡ byte_at (front a bytes (i + 1) ∷ ds) x
    next-byte x l (yes e) = rw (byte_next ds x e, e) p.byte_there
    next-byte x l (no ne) = p.byte_other x l ne ∙ (h.bytes x l ∙ sym (same ds x ne).1)

    next_bit : (x : ℕ) → x < image_size → Dec (x ≡ a + i) → bit_of image_size m x ≡ is_given (front a bytes (i + 1) ∷ ds) x
    next_bit x l (yes e) = rw (there ds x e, e) p.bit_there
    next_bit x l (no ne) = p.bit_other x l ne ∙ (h.bits x l ∙ ap (λ (b : Bool). either b (is_given ds x)) (sym (same ds x ne).0))

    pub holds_more : Holds image_size m (front a bytes (i + 1) ∷ ds)
    holds_more =
        record {
          size = p.size ∙ h.size;
          bytes = λ x l. next-byte x l (ℕ_discrete x (a + i));
          bits = λ x l. next_bit x l (ℕ_discrete x (a + i));
        }

-- the bits of the addresses that are still to come stay clear
pub still_clear : {image_size : ℕ} (a n i : ℕ) {w m : List ℕ} {byte : ℕ} → ((k : ℕ) → k < n → a + k < image_size) → Puts image_size w m (a + i) byte → ((k : ℕ) → i ≤ k → k < n → bit_of image_size w (a + k) ≡ false) → (k : ℕ) → i + 1 ≤ k → k < n → bit_of image_size m (a + k) ≡ false
still_clear a n i within p clear k g h = p.bit_other (a + k) (within k h) (λ e. omega arith) ∙ clear k (omega arith) h

-- all of it
pub holds_all : {image_size : ℕ} {w : List ℕ} {ds : List Given} (a : ℕ) (bytes : List ℕ) (i : ℕ) → length bytes ≤ i → Holds image_size w (front a bytes i ∷ ds) → Holds image_size w (record { address = a; bytes = bytes } ∷ ds)
holds_all a bytes i h k = rw (take_all i bytes h) at k
