-- Reading a written image gives it back.
use mathlib.Core.Path.{◌≡◌, refl, sym, ap, ◌∙◌}
use mathlib.Core.List.{List, [], ◌∷◌, ◌++◌, append_assoc, append-nil}
use Prim.Native.Nat.{ℕ, zero, suc, ◌+◌, ◌*◌, ◌<◌}
use native.Mathlib.Omega.{arith}
use borrow.Author.Tests.{eq-eqb}
use lib.ListN.{length, get_or, drop}
use lib.Seq.{ext_get_or, get_or-take, get_or-drop}
use Rattle.hex_reader.specs.Lines.{hex_lines}
use Rattle.hex_reader.specs.Given.{Given, image_of}
use Rattle.hex_reader.proofs.work.Fills.{image_length, image_at}
use Rattle.hex_reader.specs.Progress.{Progress, going, ended, good, after_line, after_lines, read_of}
use Rattle.hex_reader.specs.Reader.{read_into}
use Rattle.hex_writer.specs.Writer.{record_line, record_text, data_fields, end_fields, sixteen_at, records_from, records_of, text_of, InRecords}
use Rattle.hex_writer.specs.RoundTrip.{RoundTrip}
use Rattle.hex_writer.proofs.round_trip.Characters.{Small, small_each}
use Rattle.hex_writer.proofs.round_trip.Lines.{first_record, data_line, end_line}
use Rattle.hex_writer.proofs.round_trip.Records.{records_up_to, sixteen, not_refused, given_back}

good_text : (image_size : ℕ) (text : List ℕ) (ds : List Given) → after_lines image_size (going []) 1 (hex_lines text) ≡ ended ds → read_of image_size text ≡ good ds
unfolding read_of
good_text image_size text ds e = rw e

read_image : (image_size : ℕ) (text before : List ℕ) (ds : List Given) → length before ≡ image_size → read_of image_size text ≡ good ds → read_into image_size text before ≡ record { number = 0; line = 0; image = image_of image_size ds }
unfolding read_into
read_image image_size text before ds e r = rw (eq-eqb (length before) image_size e, r)

module _ (image_size : ℕ) (in-records : InRecords image_size) (image : List ℕ) (size : length image ≡ image_size) (bytes : (k : ℕ) → k < image_size → get_or image k 0 < 256) where
  small-part : (k : ℕ) → k < records_of image_size → Small (sixteen_at image k)
  small-part k h =
      small_each (sixteen_at image k)
      (λ i l. let n = sixteen image_size image size k h in rw (get_or-take 16 (drop (16 * k) image) i 0 (omega arith), get_or-drop (16 * k) image i 0) (bytes (16 * k + i) (omega arith)))

  -- record k is taken after those before it
  taken : (k n : ℕ) → k < records_of image_size → after_line image_size (going (records_up_to image k)) n (record_line (data_fields (16 * k) (sixteen_at image k))) ≡ going (records_up_to image (suc k))
  unfolding records_up_to
  taken k n h =
      let s = sixteen image_size image size k h in
      rw (data_line (16 * k) (sixteen_at image k) (omega arith) (omega arith) (small-part k h), eq-eqb _ 0 (not_refused image_size image size k h))

  -- and after the last one the end record
  all-taken : (n k m : ℕ) → k + n ≡ records_of image_size → after_lines image_size (going (records_up_to image k)) m (hex_lines (records_from image k n ++ record_text end_fields)) ≡ ended (records_up_to image (k + n))
  all-taken zero k m h =
      let e : hex_lines (record_text end_fields) ≡ record_line end_fields ∷ [] = ap hex_lines (sym (append-nil (record_text end_fields))) ∙ first_record end_fields [] in
      let z : k + 0 ≡ k = omega arith in rw (e, end_line, z)
  all-taken (suc n) k m h =
      let r = record_text (data_fields (16 * k) (sixteen_at image k)) in
      let e : hex_lines ((r ++ records_from image (suc k) n) ++ record_text end_fields) ≡ record_line (data_fields (16 * k) (sixteen_at image k)) ∷ hex_lines (records_from image (suc k) n ++ record_text end_fields) = ap hex_lines (append_assoc r (records_from image (suc k) n) (record_text end_fields)) ∙ first_record (data_fields (16 * k) (sixteen_at image k)) (records_from image (suc k) n ++ record_text end_fields) in
      let z : k + suc n ≡ suc k + n = omega arith in
      ap (after_lines image_size (going (records_up_to image k)) m) e
      ∙ (ap (λ (p : Progress). after_lines image_size p (suc m) (hex_lines (records_from image (suc k) n ++ record_text end_fields))) (taken k m (omega arith)) ∙ (all-taken n (suc k) (suc m) (omega arith) ∙ ap (λ (t : ℕ). ended (records_up_to image t)) (sym z)))

  none_yet : records_up_to image 0 ≡ []
  unfolding records_up_to
  none_yet = refl

  text-taken : after_lines image_size (going []) 1 (hex_lines (text_of image_size image)) ≡ ended (records_up_to image (records_of image_size))
  unfolding text_of
  text-taken =
      let z : 0 + records_of image_size ≡ records_of image_size = omega arith in
      rw (none_yet, z) at (all-taken (records_of image_size) 0 1 z)

  image-back : image_of image_size (records_up_to image (records_of image_size)) ≡ image
  image-back =
      ext_get_or 0 (image_of image_size (records_up_to image (records_of image_size))) image (image_length image_size (records_up_to image (records_of image_size)) ∙ sym size)
      (λ i h. let l = image_length image_size (records_up_to image (records_of image_size)) in image_at image_size (records_up_to image (records_of image_size)) i (omega arith) ∙ given_back image_size image size (records_of image_size) i (omega arith) (omega arith))

pub round_trip : RoundTrip
round_trip image_size in-records image before size bytes e =
    read_image image_size (text_of image_size image) before (records_up_to image (records_of image_size)) e (good_text image_size (text_of image_size image) (records_up_to image (records_of image_size)) (text-taken image_size in-records image size bytes))
    ∙ rw (image-back image_size in-records image size bytes)
