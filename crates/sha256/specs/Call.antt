-- What the call for C answers: include/em73862_sha256.h.
use Rattle.std.specs.Prelude.{◌≡◌, ℕ, ◌^◌, List, length, ◌==◌, nat_lt}
use Rattle.laws.specs.Choice.{pick}
use Rattle.sha256.specs.Sha256.{digest_of}

-- 1 for a message of 2 ^ 32 bytes or more, then 5 for a digest of another size than 32 bytes
abbrev pub hash_number : List ℕ → List ℕ → ℕ
hash_number message digest = pick (nat_lt (length message) (2 ^ 32)) (pick (length digest == 32) 0 5) 1

-- the number, and the digest's bytes as the call leaves them: a refusal leaves them as they were
pub record HashCall (message before : List ℕ) (number : ℕ) (after : List ℕ) : Type 0 where
  pub answer : number ≡ hash_number message before
  pub digest : after ≡ pick (number == 0) (digest_of message) before
