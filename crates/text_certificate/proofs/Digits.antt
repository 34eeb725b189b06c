-- What is left of a digest from a byte on.
use mathlib.Core.Path.{◌≡◌, ap}
use mathlib.Core.List.{List, ◌∷◌}
use Prim.Native.Nat.{ℕ, ◌+◌, ◌/◌, ◌%◌, ◌<◌}
use native.Mathlib.Numerals.{add-one}
use lib.ListN.{length, get_or, drop}
use lib.Seq.{drop-cons}
use Rattle.text_certificate.specs.Certificate.{lower_digit, digest_text}

pub digest_next : (l : List ℕ) (i : ℕ) → i < length l → digest_text (drop i l) ≡ lower_digit (get_or l i 0 / 16) ∷ lower_digit (get_or l i 0 % 16) ∷ digest_text (drop (i + 1) l)
unfolding digest_text
digest_next l i h = rw add-one (ap digest_text (drop-cons l i 0 h))
