-- The call has one answer: two answers to the same message and buffer are equal.
use Rattle.std.proofs.Common.{◌≡◌, ℕ, List}
use Rattle.sha256.specs.Call.{HashCall}

pub one_answer : (message before : List ℕ) (n k : ℕ) (after other : List ℕ) → HashCall message before n after → HashCall message before k other → (n ≡ k) × (after ≡ other)
one_answer message before n k after other p q =
    let e : n ≡ k = cc in
    (e, cc)
