-- Demand 2 of codes: a code read and written back is the same bytes, an instruction written and read back is the same instruction; and the writer's answer is determined.
use mathlib.Core.Path.{◌≡◌, sym, ap, subst, ◌∙◌}
use mathlib.Core.Bool.{Bool, true, false}
use mathlib.Core.List.{List, [], ◌∷◌}
use Prim.Native.Nat.{ℕ, zero, suc, ◌+◌, ◌-◌, ◌<◌, min}
use native.Mathlib.Omega.{arith}
use lib.Dec.{eqb, ltb}
use lib.ListN.{length, take, drop, get_or, take-append-drop, length-take}
use lib.Seq.{take-length}
use borrow.Author.Tests.{eq-eqb, lt-ltb}
use Rattle.std.specs.Prelude.{Ok, Err}
use Rattle.laws.specs.Choice.{pick}
use Rattle.laws.proofs.Computed.{T→true}
use Rattle.numbers.specs.ComesBack.{Paper, answered, refused, image_of_another_size, record_outside_the_ranges, address_over_8191}
use Rattle.device.specs.Device.{image_size, rom_of, is_banked}
use Rattle.sheet.specs.Reading.{Read, insn, read_left, left, read_at, bytes_of}
use Rattle.sheet.specs.declared.Insn.{Insn}
use Rattle.sheet.specs.declared.NoRow.{NoRow}
use Rattle.sheet.specs.Timing.{from}
use Rattle.sheet.proofs.ReadAs.{nothing_read}
use Rattle.sheet.proofs.Lengths.{bytes_read, past_length}
use Rattle.sheet.proofs.Left.{read_enough}
use Rattle.sheet.proofs.Ends.{left_row, cut_short}
use Rattle.reader.specs.Answer.{paper_of_code}
use Rattle.writer.specs.Writing.{Written, CodeOf, paper_of, from_paper, WritePaper, code, no_code, Writes}
use Rattle.writer.specs.RoundTrips.{ReadThenWritten, WrittenThenRead, CutShort}
use Rattle.writer.proofs.Codes.{one_code, left_bytes, spelled_code_lem}

written_back : (i : Insn) (bs : List ℕ) (p : Paper) → CodeOf i bs → WritePaper i p → p ≡ answered bs
written_back i bs p k (code cs m e) = e ∙ ap answered (one_code i cs bs m k)
written_back i bs p k (no_code n e) = absurd (n bs k)

-- a code read and written back is the same bytes
read_write : (i : Insn) (bs : List ℕ) (r : Written) → CodeOf i bs → Writes i r → paper_of r ≡ answered bs
read_write i bs r k w = written_back i bs (paper_of r) k w.paper

-- the code that the writer answers
answered_code : (i : Insn) (p : Paper) (bs : List ℕ) → p ≡ answered bs → WritePaper i p → CodeOf i bs
answered_code i p bs e (code cs k d) = subst (CodeOf i) (ap (λ (q : Paper). q.values) (sym d ∙ e)) k
answered_code i p bs e (no_code n d) = let q : ◌≡◌ {A = ℕ} 11 0 = ap (λ (q : Paper). q.number) (sym d ∙ e) in absurd (omega arith)

-- the reader's answer is a row only where the code at the address is that row's
row_answered : (t b u : Bool) (r : Read) (i : Insn) → pick t (pick b (pick u (paper_of_code r) (refused address_over_8191)) (refused record_outside_the_ranges)) (refused image_of_another_size) ≡ paper_of_code (Ok i) → r ≡ Ok i
row_answered true true true (Ok j) i e = ap (λ (p : Paper). Ok (insn (get_or p.values 0 0) (get_or p.values 1 0) (get_or p.values 2 0))) e
row_answered true true true (Err NoRow.Unassigned) i e = let q : ◌≡◌ {A = ℕ} 30 0 = ap (λ (p : Paper). p.number) e in absurd (omega arith)
row_answered true true true (Err NoRow.PastEnd) i e = let q : ◌≡◌ {A = ℕ} 35 0 = ap (λ (p : Paper). p.number) e in absurd (omega arith)
row_answered true true false r i e = let q : ◌≡◌ {A = ℕ} 20 0 = ap (λ (p : Paper). p.number) e in absurd (omega arith)
row_answered true false u r i e = let q : ◌≡◌ {A = ℕ} 2 0 = ap (λ (p : Paper). p.number) e in absurd (omega arith)
row_answered false b u r i e = let q : ◌≡◌ {A = ℕ} 1 0 = ap (λ (p : Paper). p.number) e in absurd (omega arith)

pub read_then_written : ReadThenWritten
read_then_written d image bytes p3 at i e r w =
    let rom = rom_of image p3 in
    let is : read_at rom at ≡ Ok i = row_answered (eqb (length image) (image_size d)) (is_banked d p3) (ltb at 8192) (read_at rom at) i e in
    read_write i _ r (spelled_code_lem i (left rom at) (left_bytes (8192 - at) (rom at) (rom (at + 1)) (rom (at + 2)) (bytes p3 at) (bytes p3 (at + 1)) (bytes p3 (at + 2))) (left_row (left rom at) i is)) w

-- a code that stands at the start of some bytes reads as it does alone
stands : (i : Insn) (bs cs : List ℕ) → CodeOf i bs → take (length bs) cs ≡ bs → read_left cs ≡ Ok i
stands i [] cs k e = absurd (nothing_read i k.reads)
stands i (b ∷ bs) [] k e = let z : ◌≡◌ {A = ℕ} 0 (length (b ∷ bs)) = ap length e in absurd (omega arith)
stands i (b ∷ bs) (c ∷ cs) k e =
    let first : c ≡ b = ap (λ (l : List ℕ). get_or l 0 0) e in
    let h : c < 256 = rw first k.bytes.0 in
    let n : (from c).bytes ≡ length (b ∷ bs) = ap (λ (x : ℕ). (from x).bytes) first ∙ (sym (bytes_read b bs i k.bytes.0 k.reads) ∙ sym k.size) in
    let m : length (take (length (b ∷ bs)) (c ∷ cs)) ≡ length (b ∷ bs) = ap length e in
    let l : length (take (length (b ∷ bs)) (c ∷ cs)) ≡ min (length (b ∷ bs)) (length (c ∷ cs)) = length-take (length (b ∷ bs)) (c ∷ cs) in
    read_enough c cs h (omega arith)
    ∙ past_length c bs cs i h (rw first k.reads) (rw (← k.size) (ap (λ (x : ℕ). x ∷ take (length bs) bs) first ∙ (take-length (b ∷ bs) ∙ sym e)))

pub written_then_read : WrittenThenRead
written_then_read i r bs w e d image size bytes p3 at b h there =
    let k = answered_code i (paper_of r) bs e w.paper in
    let is : read_at (rom_of image p3) at ≡ Ok i = stands i bs (left (rom_of image p3) at) k there in
    rw (eq-eqb (length image) (image_size d) size, T→true (is_banked d p3) b, lt-ltb at 8192 h, is)

-- the first bytes of a code, not all and not none
cut : (i : Insn) (n : ℕ) (bs : List ℕ) → CodeOf i bs → 0 < n → n < length bs → read_left (take n bs) ≡ Err NoRow.PastEnd
cut i zero bs k h l = absurd (omega arith)
cut i (suc n) [] k h l = absurd (omega arith)
cut i (suc n) (b ∷ bs) k h l =
    let m : length (take n bs) ≡ min n (length bs) = length-take n bs in
    let size : length (b ∷ bs) ≡ bytes_of i.row = k.size in
    cut_short b (take n bs) (drop n bs) i k.bytes.0 (rw (take-append-drop n bs) k.reads) (omega arith)

pub cut_code : CutShort
cut_code i r bs w e d image size bytes p3 at b h l there =
    let k = answered_code i (paper_of r) bs e w.paper in
    let is : read_at (rom_of image p3) at ≡ Err NoRow.PastEnd = ap read_left there ∙ cut i (8192 - at) bs k (omega arith) (omega arith) in
    rw (eq-eqb (length image) (image_size d) size, T→true (is_banked d p3) b, lt-ltb at 8192 h, is)

one_paper : (i : Insn) (p q : Paper) → WritePaper i p → WritePaper i q → p ≡ q
one_paper i p q (code bs k e) w = e ∙ sym (written_back i bs q k w)
one_paper i p q (no_code n e) (code bs k d) = absurd (n bs k)
one_paper i p q (no_code n e) (no_code m d) = e ∙ sym d

-- any two answers that meet the promise are equal
pub one_answer : (i : Insn) (r s : Written) → Writes i r → Writes i s → r ≡ s
one_answer i r s v w = sym v.nothing_besides ∙ (ap from_paper (one_paper i (paper_of r) (paper_of s) v.paper w.paper) ∙ w.nothing_besides)
