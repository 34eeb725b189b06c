-- The bytes and the cycles that the first byte of a code gives are those of its row.
use mathlib.Core.Path.{◌≡◌, sym}
use Prim.Native.Nat.{ℕ, ◌+◌, ◌-◌, ◌<◌, ◌≤◌}
use native.Mathlib.Omega.{arith}
use lib.Dec.{T, leb, leb→le}
use Rattle.std.specs.Prelude.{Result, Ok}
use Rattle.laws.specs.Choice.{both}
use Rattle.laws.proofs.Computed.{below, at as row_test, both_left, both_right}
use Rattle.sheet.specs.Table.{line_at}
use Rattle.sheet.specs.declared.NoRow.{NoRow}
use Rattle.reader.specs.declared.Decoded.{Decoded}
use Rattle.text_lister.specs.Listing.{decoded_of}
use Rattle.sheet.specs.Reading.{read_at, bytes_of, cycles_of}
use Rattle.sheet.specs.Timing.{TimedFrom}
use Rattle.sheet.specs.declared.Insn.{Insn}
use Rattle.reader.proofs.Rows.{columns, row_ends}

module _ (rom : ℕ → ℕ) (at : ℕ) {i : Insn} {n t : ℕ} (e : read_at rom at ≡ Ok i) (timed : TimedFrom (rom at) n t) where
  pub bytes-are : n ≡ bytes_of i.row
  bytes-are = sym (columns rom at i e n t timed).bytes

  pub cycles-are : t ≡ cycles_of i.row
  cycles-are = sym (columns rom at i e n t timed).cycles

  pub bytes_end : at < 8192 → rom at < 256 → at + n ≤ 8192
  bytes_end l h =
      let is : n ≡ bytes_of i.row = bytes-are in
      let k : bytes_of i.row ≤ 8192 - at = row_ends rom at i e h in
      omega arith

-- a row has at most three bytes and three cycles
few : T (below 256 (λ row. both (leb (bytes_of row) 3) (leb (cycles_of row) 3)))
unfolding line_at
few = tt

module _ (row : ℕ) (h : row < 256) where
  both_few : T (both (leb (bytes_of row) 3) (leb (cycles_of row) 3))
  both_few = row_test (λ row. both (leb (bytes_of row) 3) (leb (cycles_of row) 3)) 256 few row h

  pub few-bytes : bytes_of row ≤ 3
  few-bytes = leb→le (bytes_of row) 3 (both_left (leb (bytes_of row) 3) (leb (cycles_of row) 3) both_few)

  pub few-cycles : cycles_of row ≤ 3
  few-cycles = leb→le (cycles_of row) 3 (both_right (leb (bytes_of row) 3) (leb (cycles_of row) 3) both_few)

-- what is told of the row at an address
module _ (rom : ℕ → ℕ) (at : ℕ) {i : Insn} {n t : ℕ} (e : read_at rom at ≡ Ok i) (timed : TimedFrom (rom at) n t) where
  pub decoded-is : ◌≡◌ {A = Result Decoded NoRow} (Ok (record { insn = i; bytes = n; cycles = t })) (decoded_of (read_at rom at))
  decoded-is = rw (e, bytes-are rom at e timed, cycles-are rom at e timed)

  pub decoded_within : at < 8192 → rom at < 256 → i.row < 256 → (n ≤ 3) × (at + n ≤ 8192) × (t ≤ 3)
  decoded_within l b r = (omega (arith, bytes-are rom at e timed, few-bytes i.row r), bytes_end rom at e timed l b, omega (arith, cycles-are rom at e timed, few-cycles i.row r))
