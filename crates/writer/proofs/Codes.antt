-- An instruction has at most one code, and that is the one it spells.
use mathlib.Core.Path.{◌≡◌, refl, sym, ap, ◌∙◌}
use mathlib.Core.List.{List, [], ◌∷◌}
use Prim.Native.Nat.{ℕ, zero, suc, ◌+◌, ◌*◌, ◌/◌, ◌%◌, ◌<◌, ◌≤◌}
use native.Mathlib.Omega.{arith}
use native.Mathlib.Nat.{le_refl}
use lib.ListN.{take, length}
use lib.Seq.{take-take, length-take-le}
use Rattle.std.specs.Prelude.{Ok}
use Rattle.sheet.specs.Code.{digits}
use Rattle.sheet.specs.Reading.{read_bytes, bytes_of}
use Rattle.sheet.specs.declared.Insn.{Insn}
use Rattle.sheet.proofs.Lengths.{past_length, row_enough}
use Rattle.sheet.proofs.ReadAs.{short_row, nothing_read}
use Rattle.writer.specs.Spelling.{spelling}
use Rattle.writer.specs.Writing.{AreBytes, CodeOf}
use Rattle.writer.proofs.Spells.{number_of, spells}

-- the three bytes of a number, and as many of them as the row of an instruction has
abbrev pub three : ℕ → List ℕ
three n = n / 65536 % 256 ∷ n / 256 % 256 ∷ n % 256 ∷ []

abbrev pub code_of : Insn → List ℕ
code_of i = take (bytes_of i.row) (three (spelling i))

module _ (i : Insn) (b0 b1 b2 : ℕ) (h0 : b0 < 256) (h1 : b1 < 256) (h2 : b2 < 256) (reads : read_bytes (b0 ∷ b1 ∷ b2 ∷ []) ≡ Ok i) where
  -- three bytes of which those past the row are 0 are what the instruction spells
  spelled_by : (n : ℕ) → bytes_of i.row ≡ n → number_of n (b0 / 16) (b0 % 16) (b1 / 16) (b1 % 16) (b2 / 16) (b2 % 16) ≡ (b0 * 256 + b1) * 256 + b2 → spelling i ≡ (b0 * 256 + b1) * 256 + b2
  spelled_by n e q =
      spells (b0 / 16) (b0 % 16) (b1 / 16) (b1 % 16) (b2 / 16) (b2 % 16) (omega arith) (omega arith) (omega arith) (omega arith) (omega arith) (omega arith) i reads
      ∙ (ap (λ (m : ℕ). number_of m (b0 / 16) (b0 % 16) (b1 / 16) (b1 % 16) (b2 / 16) (b2 % 16)) e ∙ q)

  three-by : spelling i ≡ (b0 * 256 + b1) * 256 + b2 → three (spelling i) ≡ b0 ∷ b1 ∷ b2 ∷ []
  three-by e =
      let e0 : spelling i / 65536 % 256 ≡ b0 = omega arith in
      let e1 : spelling i / 256 % 256 ≡ b1 = omega arith in
      let e2 : spelling i % 256 ≡ b2 = omega arith in
      (λ t. e0 t ∷ e1 t ∷ e2 t ∷ [])

-- a code, filled up with 0 to three bytes
pub record Filled (i : Insn) (bs : List ℕ) : Type 0 where
  pub reads : read_bytes (three (spelling i)) ≡ Ok i
  pub code : bs ≡ code_of i

filled : (i : Insn) (bs cs : List ℕ) → three (spelling i) ≡ cs → read_bytes cs ≡ Ok i → bs ≡ take (bytes_of i.row) cs → Filled i bs
filled i bs cs e r q = record { reads = ap read_bytes e ∙ r; code = q ∙ ap (take (bytes_of i.row)) (sym e) }

pub fill : (i : Insn) (bs : List ℕ) → CodeOf i bs → Filled i bs
fill i [] k = absurd (nothing_read i k.reads)
fill i (b0 ∷ []) k =
    let n : bytes_of i.row ≡ 1 = sym k.size in
    let h0 : b0 < 256 = k.bytes.0 in
    let r = past_length b0 [] (0 ∷ 0 ∷ []) i h0 k.reads (rw n) in
    filled i (b0 ∷ []) (b0 ∷ 0 ∷ 0 ∷ []) (three-by i b0 0 0 h0 (omega arith) (omega arith) r (spelled_by i b0 0 0 h0 (omega arith) (omega arith) r 1 n (omega arith))) r (rw n)
fill i (b0 ∷ b1 ∷ []) k =
    let n : bytes_of i.row ≡ 2 = sym k.size in
    let h0 : b0 < 256 = k.bytes.0 in
    let h1 : b1 < 256 = k.bytes.1.0 in
    let r = past_length b0 (b1 ∷ []) (b1 ∷ 0 ∷ []) i h0 k.reads (rw n) in
    filled i (b0 ∷ b1 ∷ []) (b0 ∷ b1 ∷ 0 ∷ []) (three-by i b0 b1 0 h0 h1 (omega arith) r (spelled_by i b0 b1 0 h0 h1 (omega arith) r 2 n (omega arith))) r (rw n)
fill i (b0 ∷ b1 ∷ b2 ∷ []) k =
    let n : bytes_of i.row ≡ 3 = sym k.size in
    let h0 : b0 < 256 = k.bytes.0 in
    let h1 : b1 < 256 = k.bytes.1.0 in
    let h2 : b2 < 256 = k.bytes.1.1.0 in
    filled i (b0 ∷ b1 ∷ b2 ∷ []) (b0 ∷ b1 ∷ b2 ∷ []) (three-by i b0 b1 b2 h0 h1 h2 k.reads (spelled_by i b0 b1 b2 h0 h1 h2 k.reads 3 n (omega arith))) k.reads (rw n)
fill i (b0 ∷ b1 ∷ b2 ∷ b3 ∷ bs) k =
    let s = short_row (digits (b0 ∷ b1 ∷ b2 ∷ b3 ∷ bs)) i k.reads in
    let n : suc (suc (suc (suc (length bs)))) ≡ bytes_of i.row = k.size in
    let few = s.few in
    absurd (omega arith)

pub one_code : (i : Insn) (bs cs : List ℕ) → CodeOf i bs → CodeOf i cs → bs ≡ cs
one_code i bs cs k m = (fill i bs k).code ∙ sym (fill i cs m).code

bytes_take : (n : ℕ) (bs : List ℕ) → AreBytes bs → AreBytes (take n bs)
bytes_take zero bs h = tt
bytes_take (suc n) [] h = tt
bytes_take (suc n) (b ∷ bs) h = (h.0, bytes_take n bs h.1)

-- bytes that read as an instruction have its code at their start
started : (i : Insn) (b : ℕ) (bs : List ℕ) (n : ℕ) → bytes_of i.row ≡ n → n ≤ length (b ∷ bs) → AreBytes (b ∷ bs) → read_bytes (b ∷ bs) ≡ Ok i → CodeOf i (take n (b ∷ bs))
started i b bs zero e h k r =
    let some : 0 < bytes_of i.row = (short_row (digits (b ∷ bs)) i r).some in
    absurd (omega arith)
started i b bs (suc n) e h k r =
    record {
      bytes = bytes_take (suc n) (b ∷ bs) k;
      size = length-take-le (suc n) (b ∷ bs) h ∙ sym e;
      reads = past_length b bs (take n bs) i k.0 r (rw e (ap (λ (cs : List ℕ). b ∷ cs) (sym (take-take n n bs (le_refl n)))));
    }

-- three bytes at most
pub left_bytes : (n b0 b1 b2 : ℕ) → b0 < 256 → b1 < 256 → b2 < 256 → AreBytes (take n (b0 ∷ b1 ∷ b2 ∷ []))
left_bytes n b0 b1 b2 h0 h1 h2 = bytes_take n (b0 ∷ b1 ∷ b2 ∷ []) (h0, (h1, (h2, tt)))

pub spelled_code_lem : (i : Insn) (bs : List ℕ) → AreBytes bs → read_bytes bs ≡ Ok i → CodeOf i (take (bytes_of i.row) bs)
spelled_code_lem i [] k r = absurd (nothing_read i r)
spelled_code_lem i (b ∷ bs) k r = started i b bs (bytes_of i.row) refl (row_enough b bs i k.0 r) k r
