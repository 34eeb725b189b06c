-- The image of what a buffer holds.
use mathlib.Core.Path.{◌≡◌, refl, sym, ◌∙◌}
use mathlib.Core.List.{List}
use Prim.Native.Nat.{ℕ, zero, suc, ◌+◌, ◌<◌}
use native.Mathlib.Nat.{not-suc-le-zero}
use native.Mathlib.Numerals.{add-one}
use native.Mathlib.Omega.{arith}
use lib.ListN.{length, get_or, set, take, length-take}
use lib.Seq.{take_all, take-suc, take-suc-set, get_or-take, ext_get_or}
use Rattle.hex_reader.specs.Given.{Given, byte_at, bytes_from, image_of}
use Rattle.hex_reader.specs.Work.{Holds}

from_length : (ds : List Given) (a n : ℕ) → length (bytes_from ds a n) ≡ n
from_length ds a zero = refl
from_length ds a (suc n) = rw (from_length ds (suc a) n)

from_at : (ds : List Given) (a n i : ℕ) → i < n → get_or (bytes_from ds a n) i 0 ≡ byte_at ds (a + i)
from_at ds a zero i h = absurd (not-suc-le-zero h)
from_at ds a (suc n) zero h = let e : a + 0 ≡ a = omega arith in rw e
from_at ds a (suc n) (suc i) h = let e : a + suc i ≡ suc a + i = omega arith in rw e (from_at ds (suc a) n i (omega arith))

pub image_length : (image_size : ℕ) (ds : List Given) → length (image_of image_size ds) ≡ image_size
unfolding image_of
image_length image_size ds = from_length ds 0 image_size

pub image_at : (image_size : ℕ) (ds : List Given) (i : ℕ) → i < image_size → get_or (image_of image_size ds) i 0 ≡ byte_at ds i
unfolding image_of
image_at image_size ds i h = from_at ds 0 image_size i h ∙ (let e : 0 + i ≡ i = omega arith in rw e)

pub held_image : (image_size : ℕ) (w : List ℕ) (ds : List Given) → Holds image_size w ds → take image_size w ≡ image_of image_size ds
held_image image_size w ds k =
    let s = k.size in
    let n : length (take image_size w) ≡ image_size = omega (arith, length-take image_size w) in
    ext_get_or 0 (take image_size w) (image_of image_size ds) (n ∙ (let e = image_length image_size ds in omega arith))
    (λ i h. get_or-take image_size w i 0 (omega arith) ∙ (k.bytes i (omega arith) ∙ (let e = image_at image_size ds i (omega arith) in cc)))

-- a list copied into another, a place at a time
pub copied_more : (m w : List ℕ) (i : ℕ) → take i m ≡ take i w → i < length m → i < length w → take (i + 1) (set m i (get_or w i 0)) ≡ take (i + 1) w
copied_more m w i e h g = rw (add-one i, take-suc-set m i (get_or w i 0) h, take-suc w i 0 g, e)

pub copied_all : (n : ℕ) (m w : List ℕ) (i : ℕ) → take i m ≡ take i w → length m ≡ n → i ≡ n → m ≡ take n w
copied_all n m w i e s h = sym (take_all n m (omega arith)) ∙ (rw h at e)
