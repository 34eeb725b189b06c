-- The records of a written image, the last one first: none is refused, and together they give the image.
use mathlib.Core.Path.{◌≡◌, refl, ◌∙◌}
use mathlib.Core.Bool.{false}
use mathlib.Core.List.{List, [], ◌∷◌}
use Prim.Native.Nat.{ℕ, zero, suc, ◌+◌, ◌-◌, ◌*◌, ◌<◌, ◌≤◌}
use native.Mathlib.Decide.{dec_lt}
use native.Mathlib.Omega.{arith}
use borrow.Author.Tests.{lt-leb}
use lib.Dec.{leb}
use lib.ListN.{length, get_or, drop, length-take, length-drop}
use lib.Seq.{get_or-take, get_or-drop}
use Rattle.hex_reader.specs.Given.{Given, is_given, byte_at, refusal_of}
use Rattle.hex_reader.proofs.data.Some.{some_false}
use Rattle.hex_reader.proofs.data.Holding.{gives-in, gives-before, gives_after}
use Rattle.hex_writer.specs.Writer.{sixteen_at, records_of}

abbrev pub record_of_image : List ℕ → ℕ → Given
record_of_image image k = record { address = 16 * k; bytes = sixteen_at image k }

unfoldable pub records_up_to : List ℕ → ℕ → List Given
records_up_to image zero = []
records_up_to image (suc k) = record_of_image image k ∷ records_up_to image k

module _ (image_size : ℕ) (image : List ℕ) (size : length image ≡ image_size) where
  pub sixteen : (k : ℕ) → k < records_of image_size → length (sixteen_at image k) ≡ 16
  sixteen k h = omega (arith, length-take 16 (drop (16 * k) image), length-drop (16 * k) image)

  -- the records before record k give no address from its own on
  none-given : (k x : ℕ) → k ≤ records_of image_size → 16 * k ≤ x → is_given (records_up_to image k) x ≡ false
  unfolding records_up_to
  none-given zero x h g = refl
  none-given (suc k) x h g =
      rw (gives_after (16 * k) (sixteen_at image k) x (omega (arith, sixteen k (omega arith)))) (none-given k x (omega arith) (omega arith))

  pub not_refused : (k : ℕ) → k < records_of image_size → refusal_of image_size (records_up_to image k) (record_of_image image k) ≡ 0
  unfolding refusal_of
  not_refused k h =
      let n = sixteen k h in
      rw (some_false (λ i. leb image_size (16 * k + i)) (length (sixteen_at image k)) (λ i l. lt-leb image_size (16 * k + i) (omega arith)), some_false (λ i. is_given (records_up_to image k) (16 * k + i)) (length (sixteen_at image k)) (λ i l. none-given k (16 * k + i) (omega arith) (omega arith)))

  byte-by : (k x : ℕ) → suc k ≤ records_of image_size → x < 16 * suc k → (x < 16 * k → byte_at (records_up_to image k) x ≡ get_or image x 0) → Dec (x < 16 * k) → byte_at (records_up_to image (suc k)) x ≡ get_or image x 0
  unfolding records_up_to
  byte-by k x h g f (yes l) = rw (gives-before (16 * k) (sixteen_at image k) x l) (f l)
  byte-by k x h g f (no l) =
      let e : 16 * k + (x - 16 * k) ≡ x = omega arith in
      rw (gives-in (16 * k) (sixteen_at image k) x (omega arith) (omega (arith, sixteen k h)))
      (get_or-take 16 (drop (16 * k) image) (x - 16 * k) 0 (omega arith) ∙ (get_or-drop (16 * k) image (x - 16 * k) 0 ∙ rw e))

  pub given_back : (k x : ℕ) → k ≤ records_of image_size → x < 16 * k → byte_at (records_up_to image k) x ≡ get_or image x 0
  given_back zero x h g = absurd (let z : ⊥ = omega arith in z)
  given_back (suc k) x h g = byte-by k x h g (λ l. given_back k x (omega arith) l) (dec_lt x (16 * k))
