-- What is read at an address is an instruction of the sheet, its first byte gives the row's bytes and cycles, and its bytes stand before the end.
use mathlib.Core.Path.{◌≡◌}
use mathlib.Core.List.{List, [], ◌∷◌}
use Prim.Native.Nat.{ℕ, zero, suc, ◌+◌, ◌-◌, ◌<◌, ◌≤◌, min}
use native.Mathlib.Omega.{arith}
use lib.ListN.{length, take, length-take}
use lib.Seq.{take-nil, take_all}
use Rattle.sheet.specs.Code.{digits}
use Rattle.sheet.specs.Fields.{InFields}
use Rattle.sheet.specs.Reading.{read_bytes, read_left, left, read_at, bytes_of}
use Rattle.sheet.specs.Timing.{Timed, TimedFrom}
use Rattle.sheet.specs.declared.Insn.{Insn}
use Rattle.std.specs.Prelude.{Ok}
use Rattle.sheet.proofs.Operands.{AreDigits, in-fields}
use Rattle.sheet.proofs.ReadAs.{row_of, has_row, nothing_read}
use Rattle.sheet.proofs.Lengths.{row_enough}
use Rattle.sheet.proofs.Ends.{few, read_behind, left_row}

-- the digits of three bytes at most
are_digits : (k a b c : ℕ) → a < 256 → b < 256 → c < 256 → AreDigits (digits (take k (a ∷ b ∷ c ∷ [])))
are_digits zero a b c h i j = tt
are_digits (suc zero) a b c h i j = (omega arith, (omega arith, tt))
are_digits (suc (suc zero)) a b c h i j = (omega arith, (omega arith, (omega arith, (omega arith, tt))))
are_digits (suc (suc (suc k))) a b c h i j = rw (take-nil {A = ℕ} k) (omega arith, (omega arith, (omega arith, (omega arith, (omega arith, (omega arith, tt))))))

timed_left : (k b : ℕ) (more : List ℕ) (i : Insn) → read_bytes (take k (b ∷ more)) ≡ Ok i → (n t : ℕ) → TimedFrom b n t → Timed i.row n t
timed_left zero b more i e n t timed = absurd (nothing_read i e)
timed_left (suc k) b more i e n t timed = rw (row_of (digits (b ∷ take k more)) i e) (timed (digits (take k more)) (has_row (digits (b ∷ take k more)) i e))

enough_left : (k b : ℕ) (more : List ℕ) (i : Insn) → b < 256 → read_bytes (take k (b ∷ more)) ≡ Ok i → bytes_of i.row ≤ k
enough_left zero b more i h e = absurd (nothing_read i e)
enough_left (suc k) b more i h e =
    let n : bytes_of i.row ≤ length (b ∷ take k more) = row_enough b (take k more) i h e in
    let l : length (take k more) ≡ min k (length more) = length-take k more in
    omega arith

module _ (rom : ℕ → ℕ) (at : ℕ) (i : Insn) (e : read_at rom at ≡ Ok i) where
  row : read_bytes (left rom at) ≡ Ok i
  row = left_row (left rom at) i e

  pub read-in-fields : ((k : ℕ) → rom k < 256) → InFields i
  read-in-fields bytes = in-fields (digits (left rom at)) (are_digits (8192 - at) (rom at) (rom (at + 1)) (rom (at + 2)) (bytes at) (bytes (at + 1)) (bytes (at + 2))) i row

  pub columns : (n t : ℕ) → TimedFrom (rom at) n t → Timed i.row n t
  columns = timed_left (8192 - at) (rom at) (rom (at + 1) ∷ rom (at + 2) ∷ []) i row

  -- "a code that ends exactly at the last address is good", and none goes on behind it
  pub row_ends : rom at < 256 → bytes_of i.row ≤ 8192 - at
  row_ends h = enough_left (8192 - at) (rom at) (rom (at + 1) ∷ rom (at + 2) ∷ []) i h row

-- three bytes before the last two addresses, and what is left there
module _ (rom : ℕ → ℕ) (at : ℕ) where
  pub three-left : rom at < 256 → at < 8190 → read_bytes (rom at ∷ rom (at + 1) ∷ rom (at + 2) ∷ []) ≡ read_at rom at
  three-left h k =
      let n = few (rom at) h in
      let l : left rom at ≡ rom at ∷ rom (at + 1) ∷ rom (at + 2) ∷ [] = take_all (8192 - at) (rom at ∷ rom (at + 1) ∷ rom (at + 2) ∷ []) (omega arith) in
      rw l (read_behind (rom at) (rom (at + 1) ∷ rom (at + 2) ∷ []) [] h (omega arith))

  pub two-left : at ≡ 8190 → read_left (rom at ∷ rom (at + 1) ∷ []) ≡ read_at rom at
  two-left e = let k : 8192 - at ≡ 2 = omega arith in rw k

  pub one_left : at ≡ 8191 → read_left (rom at ∷ []) ≡ read_at rom at
  one_left e = let k : 8192 - at ≡ 1 = omega arith in rw k
