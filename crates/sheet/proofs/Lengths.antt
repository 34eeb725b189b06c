-- What is read by as many bytes as a row has: no fewer, and those behind them do not matter.
use mathlib.Core.Path.{◌≡◌, refl, sym, ap, ◌∙◌}
use mathlib.Core.Bool.{Bool}
use mathlib.Core.List.{List, [], ◌∷◌}
use Prim.Native.Nat.{ℕ, zero, suc, ◌*◌, ◌/◌, ◌%◌, ◌<◌, ◌≤◌}
use native.Mathlib.Omega.{arith}
use lib.Dec.{T}
use lib.ListN.{take, length}
use lib.Seq.{take-nil}
use Rattle.laws.proofs.Computed.{below, at}
use Rattle.sheet.specs.Code.{digits}
use Rattle.sheet.specs.Table.{lines}
use Rattle.sheet.specs.Reading.{row_number, read_bytes, bytes_of}
use Rattle.sheet.specs.declared.Insn.{Insn}
use Rattle.std.specs.Prelude.{Ok}
use Rattle.sheet.proofs.FirstBytes.{first_byte_lem}
use Rattle.sheet.specs.Timing.{from}
use Rattle.sheet.proofs.ReadAs.{row_of, has_row}
use Rattle.sheet.proofs.Prefix.{wide, same_read, row-wide}

abbrev pub all_wide : ℕ → Bool
all_wide b = wide lines (b / 16) (b % 16) (2 * (from b).bytes)

-- one test over all first bytes
pub all_wide_lem : T (below 256 all_wide)
unfolding lines
all_wide_lem = tt

double : (n : ℕ) → 2 * suc n ≡ suc (suc (2 * n))
double n = omega arith

digits_take : (n : ℕ) (bs : List ℕ) → take (2 * n) (digits bs) ≡ digits (take n bs)
digits_take n [] = take-nil (2 * n) ∙ ap digits (sym (take-nil n))
digits_take zero (b ∷ bs) = refl
digits_take (suc n) (b ∷ bs) = rw (double n) (ap (λ (ds : List ℕ). b / 16 ∷ b % 16 ∷ ds) (digits_take n bs))

-- two codes with the same first byte that agree in as many bytes as rows with it have are read alike
pub read_same : (b : ℕ) (bs cs : List ℕ) → b < 256 → take (from b).bytes (b ∷ bs) ≡ take (from b).bytes (b ∷ cs) → read_bytes (b ∷ bs) ≡ read_bytes (b ∷ cs)
read_same b bs cs below256 same =
    let agree : take (2 * (from b).bytes) (digits (b ∷ bs)) ≡ take (2 * (from b).bytes) (digits (b ∷ cs)) = digits_take (from b).bytes (b ∷ bs) ∙ (ap digits same ∙ sym (digits_take (from b).bytes (b ∷ cs))) in
    same_read (b / 16) (b % 16) (2 * (from b).bytes) (digits bs) (digits cs) agree (at all_wide 256 all_wide_lem b below256)

pub length_digits : (bs : List ℕ) → length (digits bs) ≡ 2 * length bs
length_digits [] = refl
length_digits (b ∷ bs) = let e : length (digits bs) ≡ 2 * length bs = length_digits bs in omega arith

pub bytes_read : (b : ℕ) (bs : List ℕ) (i : Insn) → b < 256 → read_bytes (b ∷ bs) ≡ Ok i → bytes_of i.row ≡ (from b).bytes
bytes_read b bs i h e = ap bytes_of (row_of (digits (b ∷ bs)) i e) ∙ (first_byte_lem b h (digits bs) (has_row (digits (b ∷ bs)) i e)).bytes

-- a row is read of as many bytes as it has
pub number_enough : (b : ℕ) (bs : List ℕ) → b < 256 → (row_number (digits (b ∷ bs)) ≡ 0 → ⊥) → (from b).bytes ≤ length (b ∷ bs)
number_enough b bs h row =
    let k : length (digits (b ∷ bs)) ≡ 2 * length (b ∷ bs) = length_digits (b ∷ bs) in
    let w : 2 * (from b).bytes ≤ length (digits (b ∷ bs)) = row-wide (b / 16) (b % 16) (2 * (from b).bytes) (digits bs) (digits bs) refl (at all_wide 256 all_wide_lem b h) row in
    omega arith

pub row_enough : (b : ℕ) (bs : List ℕ) (i : Insn) → b < 256 → read_bytes (b ∷ bs) ≡ Ok i → bytes_of i.row ≤ length (b ∷ bs)
row_enough b bs i h e = rw (bytes_read b bs i h e) (number_enough b bs h (has_row (digits (b ∷ bs)) i e))

-- so are two that agree in as many bytes as the row has
pub past_length : (b : ℕ) (bs cs : List ℕ) (i : Insn) → b < 256 → read_bytes (b ∷ bs) ≡ Ok i → take (bytes_of i.row) (b ∷ bs) ≡ take (bytes_of i.row) (b ∷ cs) → read_bytes (b ∷ cs) ≡ Ok i
past_length b bs cs i h e same = sym (read_same b bs cs h (rw (← bytes_read b bs i h e) same)) ∙ e
