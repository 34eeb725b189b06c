-- What each call hands on; that two answers of it to the same are equal; and that a buffer's bytes are those of its state, so that a refusal leaves them.
use Prim.Native.Nat.{ℕ, zero, suc, ◌+◌, ◌*◌, ◌/◌, ◌%◌, ◌<◌}
use mathlib.Core.Path.{◌≡◌, refl, sym, ◌∙◌}
use mathlib.Core.Bool.{Bool, true, false}
use mathlib.Core.List.{List, [], ◌∷◌}
use native.Mathlib.Omega.{arith}
use lib.Dec.{T, eqb, ltb, eqb→eq}
use lib.ListN.{length, get_or}
use borrow.Author.Tests.{ltb-true}
use Rattle.laws.specs.Choice.{both}
use Rattle.laws.proofs.Computed.{true→T, T→true, both_left, both_right}
use Rattle.bits.specs.Bits.{bit_of}
use Rattle.std.specs.Prelude.{Result, Ok, Err}
use Rattle.numbers.specs.declared.Refusal.{Refusal}
use Rattle.sound_generator.specs.Answers.{Answer}
use Rattle.sound_generator.specs.declared.Sound.{Sound}
use Rattle.sound_calls.specs.Layout.{bytes_of, holds_state, state_at}
use Rattle.sound_calls.specs.Calls.{Left, changed_by, Leaves, Shows}

pub one_leaves : {l : Left} {n m : ℕ} {a b : List ℕ} → Leaves l n a → Leaves l m b → (n ≡ m) × (a ≡ b)
one_leaves f g = (f.answer ∙ sym g.answer, f.left ∙ sym g.left)

pub one_shows : {l : Result Bool Refusal} {n m a b : ℕ} → Shows l n a → Shows l m b → (n ≡ m) × (a ≡ b)
one_shows f g = (f.answer ∙ sym g.answer, f.shown ∙ sym g.shown)

-- what a buffer that holds a state has
pub record Held (bytes : List ℕ) : Type 0 where
  pub size : length bytes ≡ 8
  pub asleep : get_or bytes 1 0 < 2
  pub tone : get_or bytes 4 0 < 2

module _ (bytes : List ℕ) where
  pub held : holds_state bytes ≡ true → Held bytes
  unfolding holds_state
  held e =
      let flags : Bool = both (ltb (get_or bytes 1 0) 2) (ltb (get_or bytes 4 0) 2) in
      let both-flags : T flags = both_right (eqb (length bytes) 8) flags (true→T e) in
      record {
        size = eqb→eq (length bytes) 8 (both_left (eqb (length bytes) 8) flags (true→T e));
        asleep = ltb-true (get_or bytes 1 0) 2 (T→true (ltb (get_or bytes 1 0) 2) (both_left (ltb (get_or bytes 1 0) 2) (ltb (get_or bytes 4 0) 2) both-flags));
        tone = ltb-true (get_or bytes 4 0) 2 (T→true (ltb (get_or bytes 4 0) 2) (both_right (ltb (get_or bytes 1 0) 2) (ltb (get_or bytes 4 0) 2) both-flags));
      }

flag_back : (b : ℕ) → b < 2 → bit_of (eqb b 1) ≡ b
flag_back zero h = refl
flag_back (suc zero) h = refl
flag_back (suc (suc b)) h = absurd (omega arith)

-- eight bytes, one by one
eight : (l : List ℕ) → length l ≡ 8 → get_or l 0 0 ∷ get_or l 1 0 ∷ get_or l 2 0 ∷ get_or l 3 0 ∷ get_or l 4 0 ∷ get_or l 5 0 ∷ get_or l 6 0 ∷ get_or l 7 0 ∷ [] ≡ l
eight (a ∷ b ∷ c ∷ d ∷ e ∷ f ∷ g ∷ h ∷ []) n = refl
eight (a ∷ b ∷ c ∷ d ∷ e ∷ f ∷ g ∷ h ∷ i ∷ l) n = absurd (omega arith)
eight (a ∷ b ∷ c ∷ d ∷ e ∷ f ∷ g ∷ []) n = absurd (omega arith)
eight (a ∷ b ∷ c ∷ d ∷ e ∷ f ∷ []) n = absurd (omega arith)
eight (a ∷ b ∷ c ∷ d ∷ e ∷ []) n = absurd (omega arith)
eight (a ∷ b ∷ c ∷ d ∷ []) n = absurd (omega arith)
eight (a ∷ b ∷ c ∷ []) n = absurd (omega arith)
eight (a ∷ b ∷ []) n = absurd (omega arith)
eight (a ∷ []) n = absurd (omega arith)
eight [] n = absurd (omega arith)

pub back : (bytes : List ℕ) → holds_state bytes ≡ true → get_or bytes 5 0 < 256 → bytes_of (state_at bytes) ≡ bytes
unfolding bytes_of state_at
back bytes e h =
    let k = held bytes e in
    let low : (get_or bytes 5 0 + 256 * get_or bytes 6 0) % 256 ≡ get_or bytes 5 0 = omega arith in
    let high : (get_or bytes 5 0 + 256 * get_or bytes 6 0) / 256 ≡ get_or bytes 6 0 = omega arith in
    rw (flag_back (get_or bytes 1 0) k.asleep, flag_back (get_or bytes 4 0) k.tone, low, high) (eight bytes k.size)

kept_by : (f : Sound → Answer) (bytes : List ℕ) (refusal : Refusal) (t : Bool) → holds_state bytes ≡ t → f (state_at bytes) ≡ Err refusal → (changed_by f bytes).bytes ≡ bytes
kept_by f bytes refusal true e h = rw (e, h)
kept_by f bytes refusal false e h = rw e

-- a refusal leaves the bytes
pub kept : (f : Sound → Answer) (bytes : List ℕ) (refusal : Refusal) → f (state_at bytes) ≡ Err refusal → (changed_by f bytes).bytes ≡ bytes
kept f bytes refusal h = kept_by f bytes refusal (holds_state bytes) refl h

same_by : (f : Sound → Answer) (bytes : List ℕ) (t : Bool) → holds_state bytes ≡ t → get_or bytes 5 0 < 256 → f (state_at bytes) ≡ Ok (state_at bytes) → (changed_by f bytes).bytes ≡ bytes
same_by f bytes true e h k = rw (e, k) (back bytes e h)
same_by f bytes false e h k = rw e

-- and so does a call that answers with the state as it was
pub same_kept : (f : Sound → Answer) (bytes : List ℕ) → get_or bytes 5 0 < 256 → f (state_at bytes) ≡ Ok (state_at bytes) → (changed_by f bytes).bytes ≡ bytes
same_kept f bytes h k = same_by f bytes (holds_state bytes) refl h k
