-- Where a dot of RAM stands in the bytes that the code makes.
use Prim.Native.Nat.{ℕ, ◌+◌, ◌*◌, ◌/◌, ◌%◌, ◌^◌, ◌<◌}
use mathlib.Core.Bool.{Bool, true, false}
use mathlib.Core.List.{List}
use mathlib.Core.Path.{◌≡◌, ap}
use native.Mathlib.Decide.{dec_lt}
use native.Mathlib.Nat.{zero-div}
use native.Mathlib.Omega.{arith}
use lib.Dec.{T, eqb, eqb→eq}
use lib.ListN.{get_or}
use Rattle.laws.specs.Choice.{pick, both}
use Rattle.laws.proofs.Computed.{below, at}
use Rattle.bits.specs.Bits.{has_bit}
use Rattle.record.specs.Valid.{Nibbles}
use Rattle.display.specs.Display.{is_lit}
use Rattle.display.specs.Bytes.{pair_at}
use Rattle.display.proofs.Bytes.{bytes_in, bytes_at_lem}

-- the byte of two nibbles has at `from + t` what one of them, f, has at t
abbrev same_bit : (ℕ → ℕ → ℕ) → ℕ → ℕ → ℕ → ℕ → Bool
same_bit f from low high t = eqb ((low + 16 * high) / 2 ^ (from + t) % 2) (f low high / 2 ^ t % 2)

abbrev same_bits : (ℕ → ℕ → ℕ) → ℕ → Bool
same_bits f from = below 16 (λ low. below 16 (λ high. below 4 (λ t. same_bit f from low high t)))

nibble_bit : (f : ℕ → ℕ → ℕ) (from : ℕ) → T (same_bits f from) → (low high t : ℕ) → low < 16 → high < 16 → t < 4 → has_bit (low + 16 * high) (2 ^ (from + t)) ≡ has_bit (f low high) (2 ^ t)
nibble_bit f from k low high t hl hh ht =
    ap (λ (d : ℕ). eqb d 1)
    (eqb→eq ((low + 16 * high) / 2 ^ (from + t) % 2) (f low high / 2 ^ t % 2)
    (at (same_bit f from low high) 4 (at (λ high. below 4 (same_bit f from low high)) 16 (at (λ low. below 16 (λ high. below 4 (same_bit f from low high))) 16 k low hl) high hh) t ht))

low_bit : (low high t : ℕ) → low < 16 → high < 16 → t < 4 → has_bit (low + 16 * high) (2 ^ (0 + t)) ≡ has_bit low (2 ^ t)
low_bit = nibble_bit (λ low high. low) 0 tt

high_bit : (low high t : ℕ) → low < 16 → high < 16 → t < 4 → has_bit (low + 16 * high) (2 ^ (4 + t)) ≡ has_bit high (2 ^ t)
high_bit = nibble_bit (λ low high. high) 4 tt

-- in the low nibble, or in the high one
in_half : (ram : List ℕ) (c s : ℕ) → Nibbles ram → c < 8 → s < 40 → Dec (s % 8 < 4) → has_bit (pair_at ram (0x20 + 16 * c + 2 * (s / 8))) (2 ^ (s % 8)) ≡ has_bit (get_or ram (0x20 + 16 * c + s / 4) 0) (2 ^ (s % 4))
in_half ram c s n hc hs (yes h) =
    let p : 0x20 + 16 * c + s / 4 ≡ 0x20 + 16 * c + 2 * (s / 8) = omega arith in
    let b : s % 8 ≡ 0 + s % 4 = omega arith in
    rw (p, b) (low_bit _ _ (s % 4) (n.each _ (omega arith)) (n.each _ (omega arith)) (omega arith))
in_half ram c s n hc hs (no h) =
    let p : 0x20 + 16 * c + s / 4 ≡ 0x20 + 16 * c + 2 * (s / 8) + 1 = omega arith in
    let b : s % 8 ≡ 4 + s % 4 = omega arith in
    rw (p, b) (high_bit _ _ (s % 4) (n.each _ (omega arith)) (n.each _ (omega arith)) (omega arith))

dot_in : (on : Bool) (ram : List ℕ) (c s : ℕ) → Nibbles ram → c < 8 → s < 40 → has_bit (pick on (pair_at ram (0x20 + 16 * c + 2 * (s / 8))) 0) (2 ^ (s % 8)) ≡ both on (has_bit (get_or ram (0x20 + 16 * c + s / 4) 0) (2 ^ (s % 4)))
dot_in true ram c s n hc hs = in_half ram c s n hc hs (dec_lt (s % 8) 4)
dot_in false ram c s n hc hs = rw (zero-div (2 ^ (s % 8)))

pub dots_in : (on : Bool) (ram : List ℕ) (c s : ℕ) → Nibbles ram → c < 8 → s < 40 → is_lit (bytes_in on ram) c s ≡ both on (has_bit (get_or ram (0x20 + 16 * c + s / 4) 0) (2 ^ (s % 4)))
dots_in on ram c s n hc hs =
    let row : (5 * c + s / 8) / 5 ≡ c = omega arith in
    let column : (5 * c + s / 8) % 5 ≡ s / 8 = omega arith in
    rw (bytes_at_lem on ram (5 * c + s / 8) (omega arith), row, column) (dot_in on ram c s n hc hs)
