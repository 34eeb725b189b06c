-- One word more of a schedule, one round more, one block more.
use Rattle.std.proofs.Common.{◌≡◌, ℕ, ◌+◌, ◌*◌, ◌<◌, List, [], ◌∷◌, ◌++◌, length, get_or, take, set, refl, add-one, take-suc-set}
use Rattle.sha256.specs.Sha256.{next_word, schedule, round, rounds, constants, after_block, after_blocks, initial}
use Rattle.sha256.specs.declared.State.{State}

pub one_word : (bytes : List ℕ) (from t : ℕ) → schedule bytes from (t + 1) ≡ schedule bytes from t ++ (next_word bytes from t (schedule bytes from t) ∷ [])
unfolding schedule
one_word bytes from t = rw add-one refl

pub no_word : (bytes : List ℕ) (from : ℕ) → schedule bytes from 0 ≡ []
unfolding schedule
no_word bytes from = refl

pub one_more_round : (w : List ℕ) (s : State) (t : ℕ) → rounds w s (t + 1) ≡ round (rounds w s t) (get_or constants t 0) (get_or w t 0)
unfolding rounds
one_more_round w s t = rw add-one refl

pub no_round : (w : List ℕ) (s : State) → rounds w s 0 ≡ s
unfolding rounds
no_round w s = refl

pub one_block : (bytes : List ℕ) (n : ℕ) → after_blocks bytes (n + 1) ≡ after_block (after_blocks bytes n) bytes (64 * n)
unfolding after_blocks
one_block bytes n = rw add-one refl

pub no_block : (bytes : List ℕ) → after_blocks bytes 0 ≡ initial
unfolding after_blocks
no_block bytes = refl

-- a word written behind those that are right
pub word_written : (bytes : List ℕ) (from t : ℕ) (w : List ℕ) (next : ℕ) → t < length w → take t w ≡ schedule bytes from t → next ≡ next_word bytes from t (take t w)
    → take (t + 1) (set w t next) ≡ schedule bytes from (t + 1)
word_written bytes from t w next h before e = rw (one_word, add-one, take-suc-set w t next, e, before) refl
