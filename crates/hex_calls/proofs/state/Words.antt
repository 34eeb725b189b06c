-- A number in eight bytes is that number again.
use mathlib.Core.Path.{◌≡◌}
use Prim.Native.Nat.{ℕ, zero, suc, ◌+◌, ◌*◌, ◌/◌, ◌%◌, ◌^◌, ◌<◌}
use native.Mathlib.Nat.{pow-suc}
use native.Mathlib.Omega.{arith}

-- the bytes of a number make it again
abbrev pub summed : ℕ → ℕ → ℕ
summed zero v = 0
summed (suc n) v = v % 256 + 256 * summed n (v / 256)

sum_back : (n v : ℕ) → v < 256 ^ n → summed n v ≡ v
sum_back zero v h = omega arith
sum_back (suc n) v h = let p = pow-suc 256 n in let e = sum_back n (v / 256) (omega arith) in omega arith

pub word_back : (v : ℕ) → v < 2 ^ 64 → summed 8 v ≡ v
word_back v h = sum_back 8 v h
