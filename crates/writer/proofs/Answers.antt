-- What the writer's tests show of its answer.
use mathlib.Core.Path.{◌≡◌, refl, ap, ◌∙◌}
use mathlib.Core.Bool.{true, false}
use mathlib.Core.List.{List, [], ◌∷◌}
use Prim.Native.Nat.{ℕ, zero, suc, ◌/◌, ◌%◌, ◌<◌}
use native.Mathlib.Omega.{arith}
use lib.Dec.{eqb}
use lib.ListN.{take}
use Rattle.std.specs.Prelude.{Ok, Err, nat_eq, ◌&&◌}
use Rattle.std.proofs.lemmas.Grind.{common_steps}
use Rattle.numbers.specs.ComesBack.{answered}
use Rattle.sheet.specs.Code.{digits}
use Rattle.sheet.specs.Reading.{read_bytes, bytes_of}
use Rattle.sheet.specs.Timing.{TimedFrom}
use Rattle.sheet.specs.declared.Insn.{Insn}
use Rattle.sheet.proofs.ReadAs.{row_of, has_row, short_row, no_such_row}
use Rattle.writer.specs.Spelling.{spelling}
use Rattle.numbers.specs.declared.Refusal.{Refusal}
use Rattle.writer.specs.Writing.{CodeOf, from_paper, Writes, code, no_code}
use Rattle.writer.proofs.Codes.{three, fill, spelled_code_lem}
use Rattle.writer.proofs.Spells.{number_of, spells}

pub refuses : (i : Insn) → ((bs : List ℕ) → CodeOf i bs → ⊥) → Writes i (Err Refusal.NotToBeWritten)
refuses i n = record { paper = no_code n refl; nothing_besides = refl }

-- a row that is none has no code
pub none_of_row : (i : Insn) → 107 < i.row → (bs : List ℕ) → CodeOf i bs → ⊥
none_of_row i h bs k =
    let s = (short_row (digits bs) i k.reads).some in
    let z = no_such_row i.row h in
    omega arith

-- what `==` says of two instructions
pub same : (j i : Insn) → (nat_eq j.row i.row && (nat_eq j.a i.a && nat_eq j.b i.b)) ≡ true → j ≡ i
same j i e =
    let row : j.row ≡ i.row = grind (arith, common_steps, e) in
    let a : j.a ≡ i.a = grind (arith, common_steps, e) in
    let b : j.b ≡ i.b = grind (arith, common_steps, e) in
    (λ k. record { row = row k; a = a k; b = b k })

pub other : (j i : Insn) → (nat_eq j.row i.row && (nat_eq j.a i.a && nat_eq j.b i.b)) ≡ false → j ≡ i → ⊥
other j i e is = let row = ap (λ (x : Insn). x.row) is in let a = ap (λ (x : Insn). x.a) is in let b = ap (λ (x : Insn). x.b) is in absurd (grind (arith, common_steps, e, row, a, b))

-- an instruction has no code where what it spells does not read as it
pub none_read : (i : Insn) → (read_bytes (three (spelling i)) ≡ Ok i → ⊥) → (bs : List ℕ) → CodeOf i bs → ⊥
none_read i ne bs k = ne (fill i bs k).reads

-- the length that the first byte gives is the row's
module _ (i : Insn) (b0 b1 b2 n t : ℕ) (reads : read_bytes (b0 ∷ b1 ∷ b2 ∷ []) ≡ Ok i) (timed : TimedFrom b0 n t) where
  abbrev ds : List ℕ
  ds = digits (b0 ∷ b1 ∷ b2 ∷ [])

  pub bytes-of : bytes_of i.row ≡ n
  bytes-of = ap bytes_of (row_of ds i reads) ∙ (timed (digits (b1 ∷ b2 ∷ [])) (has_row ds i reads)).bytes

  pub few_bytes : (0 < n) × (n < 4)
  few_bytes =
      let s = short_row ds i reads in
      let some = s.some in
      let few = s.few in
      let e = bytes-of in
      (omega arith, omega arith)

-- what the instruction spells, where that reads as it
module _ (i : Insn) (n t : ℕ) (reads : read_bytes (three (spelling i)) ≡ Ok i) (timed : TimedFrom (spelling i / 65536 % 256) n t) where
  abbrev b0 : ℕ
  b0 = spelling i / 65536 % 256

  abbrev b1 : ℕ
  b1 = spelling i / 256 % 256

  abbrev b2 : ℕ
  b2 = spelling i % 256

  count : bytes_of i.row ≡ n
  count = bytes-of i b0 b1 b2 n t reads timed

  is_code : CodeOf i (take n (three (spelling i)))
  is_code = rw count at (spelled_code_lem i (three (spelling i)) (omega arith, (omega arith, (omega arith, tt))) reads)

  number : spelling i ≡ number_of n (b0 / 16) (b0 % 16) (b1 / 16) (b1 % 16) (b2 / 16) (b2 % 16)
  number = rw count at (spells (b0 / 16) (b0 % 16) (b1 / 16) (b1 % 16) (b2 / 16) (b2 % 16) (omega arith) (omega arith) (omega arith) (omega arith) (omega arith) (omega arith) i reads)

  -- bytes past the code are 0
  besides : (m : ℕ) → m ≡ n → spelling i ≡ number_of m (b0 / 16) (b0 % 16) (b1 / 16) (b1 % 16) (b2 / 16) (b2 % 16) → from_paper (answered (take m (three (spelling i)))) ≡ Ok (record { len = m; b0 = b0; b1 = b1; b2 = b2 })
  besides zero e q = let f = few_bytes i b0 b1 b2 n t reads timed in let some = f.0 in absurd (omega arith)
  besides (suc zero) e q =
      let z1 : 0 ≡ b1 = omega arith in
      let z2 : 0 ≡ b2 = omega arith in
      (λ k. Ok (record { len = 1; b0 = b0; b1 = z1 k; b2 = z2 k }))
  besides (suc (suc zero)) e q =
      let z2 : 0 ≡ b2 = omega arith in
      (λ k. Ok (record { len = 2; b0 = b0; b1 = b1; b2 = z2 k }))
  besides (suc (suc (suc zero))) e q = refl
  besides (suc (suc (suc (suc m)))) e q = let f = few_bytes i b0 b1 b2 n t reads timed in let few = f.1 in absurd (omega arith)

  pub writes : Writes i (Ok (record { len = n; b0 = b0; b1 = b1; b2 = b2 }))
  writes = record { paper = code (take n (three (spelling i))) is_code refl; nothing_besides = besides n refl number }
