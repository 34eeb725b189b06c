-- The bytes of words one after another.
use Rattle.std.proofs.Common.{◌≡◌, ℕ, zero, suc, ◌+◌, ◌-◌, ◌*◌, ◌/◌, ◌%◌, ◌^◌, ◌<◌, List, [], ◌∷◌, ◌++◌, length, get_or, take, refl, sym, ◌∙◌, arith, length-append, append_assoc, w32}
use mathlib.Core.List.{append-nil}
use Rattle.std.specs.Int.{to_be_bytes}
use Rattle.std.proofs.lemmas.List.{take_more}
use Rattle.sha256.specs.Sha256.{big_endian, joined}
use Rattle.sha256.proofs.Padding.{big_endian_length}

pub joined_length : (ws : List ℕ) → length (joined ws) ≡ 4 * length ws
unfolding joined
joined_length [] = refl
joined_length (w ∷ ws) = let e : length (joined ws) ≡ 4 * length ws = joined_length ws in simp (length-append, big_endian_length) (omega arith)

-- byte i of words
pub joined_at_lem : (ws : List ℕ) (i : ℕ) → i < 4 * length ws → get_or (joined ws) i 0 ≡ get_or ws (i / 4) 0 / 2 ^ (8 * (3 - i % 4)) % 256
unfolding joined big_endian
joined_at_lem [] i h = absurd (omega arith)
joined_at_lem (w ∷ ws) zero h = refl
joined_at_lem (w ∷ ws) (suc zero) h = refl
joined_at_lem (w ∷ ws) (suc (suc zero)) h = refl
joined_at_lem (w ∷ ws) (suc (suc (suc zero))) h = refl
joined_at_lem (w ∷ ws) (suc (suc (suc (suc i)))) h =
    let q : suc (suc (suc (suc i))) / 4 ≡ suc (i / 4) = omega arith in
    let r : suc (suc (suc (suc i))) % 4 ≡ i % 4 = omega arith in
    joined_at_lem ws i (omega arith) ∙ rw (q, r) refl

joined_append : (a b : List ℕ) → joined (a ++ b) ≡ joined a ++ joined b
unfolding joined
joined_append [] b = refl
joined_append (w ∷ a) b = rw (joined_append a b) (sym (append_assoc (big_endian 4 w) (joined a) (joined b)))

-- one word more
pub joined_more : (ws : List ℕ) (i : ℕ) → i < length ws → joined (take (i + 1) ws) ≡ joined (take i ws) ++ big_endian 4 (get_or ws i 0)
unfolding joined
joined_more ws i h = rw (take_more ws i 0 h, joined_append (take i ws) (get_or ws i 0 ∷ []), append-nil (big_endian 4 (get_or ws i 0)))

pub word_bytes : (w : ℕ) → to_be_bytes w32 w ≡ big_endian 4 w
unfolding big_endian
word_bytes w = let e : w / 1 ≡ w = omega arith in rw e
