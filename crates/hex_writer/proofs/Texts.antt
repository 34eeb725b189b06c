-- The text of bytes and of records, a part at a time.
use mathlib.Core.Path.{◌≡◌, refl, sym, ap, ◌∙◌}
use mathlib.Core.List.{List, [], ◌∷◌, ◌++◌, append_assoc, append-nil}
use Prim.Native.Nat.{ℕ, zero, suc, ◌+◌, ◌-◌, ◌*◌, ◌/◌, ◌%◌, ◌<◌, ◌≤◌}
use native.Mathlib.Omega.{arith}
use lib.ListN.{length, get_or, take, drop, length-append, length-take, length-drop}
use lib.Seq.{drop-drop}
use Rattle.std.proofs.lemmas.List.{take_more, take-append-drop}
use Rattle.std.proofs.lemmas.Slice.{take-put_mid, drop-put_mid}
use borrow.Rule.Slice.PartMut.{put_mid}
use Rattle.text.specs.Digits.{hex}
use Rattle.text.proofs.digits.Numbers.{digits_length}
use Rattle.hex_reader.specs.Record.{total}
use Rattle.hex_writer.specs.Writer.{hex_bytes, chksum, record_text, data_fields, sixteen_at, records_from, records_of}

pub hex_append : (a b : List ℕ) → hex_bytes (a ++ b) ≡ hex_bytes a ++ hex_bytes b
hex_append [] b = refl
hex_append (x ∷ a) b = rw (hex_append a b) (sym (append_assoc (hex 2 x) (hex_bytes a) (hex_bytes b)))

pub hex_length : (bytes : List ℕ) → length (hex_bytes bytes) ≡ 2 * length bytes
hex_length [] = refl
hex_length (b ∷ bytes) = omega (arith, length-append (hex 2 b) (hex_bytes bytes), digits_length 16 2 b, hex_length bytes)

pub total_append : (a b : List ℕ) → total (a ++ b) ≡ total a + total b
total_append [] b = omega arith
total_append (x ∷ a) b = omega (arith, total_append a b)

-- one byte more
pub total_more : (bytes : List ℕ) (i : ℕ) → i < length bytes → total (take (i + 1) bytes) ≡ total (take i bytes) + get_or bytes i 0
total_more bytes i h =
    let e : total (get_or bytes i 0 ∷ []) ≡ get_or bytes i 0 = omega arith in
    rw (take_more bytes i 0 h, total_append (take i bytes) (get_or bytes i 0 ∷ []), e)

pub hex_more : (bytes : List ℕ) (i : ℕ) → i < length bytes → hex_bytes (take (i + 1) bytes) ≡ hex_bytes (take i bytes) ++ hex 2 (get_or bytes i 0)
hex_more bytes i h =
    rw (take_more bytes i 0 h, hex_append (take i bytes) (get_or bytes i 0 ∷ []), append-nil (hex 2 (get_or bytes i 0)))

-- the parts of a record
pub record_parts : (head bytes : List ℕ) (sum : ℕ) → sum ≡ total (head ++ bytes) % 256 → (((((58 ∷ []) ++ hex_bytes head) ++ hex_bytes bytes) ++ hex 2 ((256 - sum) % 256)) ++ 10 ∷ []) ≡ record_text (head ++ bytes)
unfolding record_text
record_parts head bytes sum e = rw (e, hex_append head bytes)

pub record_length : (fields : List ℕ) → length (record_text fields) ≡ 4 + 2 * length fields
unfolding record_text
record_length fields =
    omega (arith, length-append (hex_bytes fields ++ hex 2 (chksum fields)) (10 ∷ []), length-append (hex_bytes fields) (hex 2 (chksum fields)), hex_length fields, digits_length 16 2 (chksum fields))

-- one record more
records_then : (image : List ℕ) (j k : ℕ) → records_from image j (suc k) ≡ records_from image j k ++ record_text (data_fields (16 * (j + k)) (sixteen_at image (j + k)))
records_then image j zero = let e : j + 0 ≡ j = omega arith in rw (e, append-nil)
records_then image j (suc k) =
    let e : j + suc k ≡ suc j + k = omega arith in
    rw (records_then image (suc j) k, e) (sym (append_assoc (record_text (data_fields (16 * j) (sixteen_at image j))) _ _))

pub records_more : (image : List ℕ) (k : ℕ) → records_from image 0 (k + 1) ≡ records_from image 0 k ++ record_text (data_fields (16 * k) (sixteen_at image k))
records_more image k = let e : k + 1 ≡ suc k = omega arith in let z : 0 + k ≡ k = omega arith in rw (e, records_then image 0 k, z)

-- a record of sixteen bytes as the code makes it
pub sixteen_length : (image : List ℕ) (k : ℕ) → k < records_of (length image) → length (sixteen_at image k) ≡ 16
sixteen_length image k h = omega (arith, length-take 16 (drop (16 * k) image), length-drop (16 * k) image)

pub part_length : (image : List ℕ) (k : ℕ) → k < records_of (length image) → length (take (16 * k + 16 - 16 * k) (drop (16 * k) image)) ≡ 16
part_length image k h = let n : 16 * k + 16 - 16 * k ≡ 16 = omega arith in rw n (sixteen_length image k h)

pub record_of : (image : List ℕ) (k : ℕ) → k < records_of (length image) → record_text (16 ∷ 16 * k / 256 ∷ 16 * k % 256 ∷ 0 ∷ take (16 * k + 16 - 16 * k) (drop (16 * k) image)) ≡ record_text (data_fields (16 * k) (sixteen_at image k))
record_of image k h =
    let n : 16 * k + 16 - 16 * k ≡ 16 = omega arith in
    rw (n, sixteen_length image k h)

-- a text stored behind what is written, and what lies behind it
module _ (out old line done : List ℕ) (i k n : ℕ) (e : n ≡ i + length line) (z : k ≡ length line) (w : i ≤ length out) (t : take i out ≡ done) (d : drop i out ≡ drop i old) where
  pub stored_front : take n (put_mid i k out line) ≡ done ++ line
  stored_front = take-put_mid i k out line n e w ∙ ap (λ (l : List ℕ). l ++ line) t

  pub stored_rest : drop n (put_mid i k out line) ≡ drop n old
  stored_rest =
      drop-put_mid i k out line n (omega arith) w (sym z)
      ∙ rw (e, ← drop-drop (length line) i out, ← drop-drop (length line) i old, d)

  pub stored_all : put_mid i k out line ≡ (done ++ line) ++ drop n old
  stored_all = sym (take-append-drop n (put_mid i k out line)) ∙ rw (stored_front, stored_rest)
