-- What is read of bytes that are left before the end of an image, by how many rows with the first of them have.
use mathlib.Core.Path.{◌≡◌, refl, sym, ap, ◌∙◌}
use mathlib.Core.Bool.{Bool, true, false}
use mathlib.Core.Logic.{⊎_elim}
use mathlib.Core.List.{List, [], ◌∷◌, ◌++◌}
use Prim.Native.Nat.{ℕ, ◌/◌, ◌%◌, ◌<◌, ◌≤◌}
use native.Mathlib.Omega.{arith}
use native.Mathlib.Decide.{ℕ_discrete}
use lib.Dec.{T, eqb, eqb→eq, ltb, ltb→lt, lt→ltb}
use lib.ListN.{length}
use borrow.Author.Tests.{eq-eqb}
use lib.Seq.{take-append-le}
use Rattle.laws.specs.Choice.{pick, both, either}
use Rattle.laws.proofs.Computed.{T→true, true→T, implies, below, at, where_at, both_left, both_right, both_i}
use Rattle.sheet.specs.Code.{digits}
use Rattle.sheet.specs.Table.{Line, lines}
use Rattle.sheet.specs.Reading.{Read, row_number, row_with, read_bytes, begin_code, begin_row, begin_some, too_few, read_left, bytes_of}
use Rattle.sheet.specs.Timing.{TimedFrom, NoneFrom, from}
use Rattle.sheet.specs.declared.Insn.{Insn}
use Rattle.std.specs.Prelude.{Ok, Err}
use Rattle.sheet.specs.declared.NoRow.{NoRow}
use Rattle.sheet.proofs.FirstBytes.{first_byte_lem, same, same_of, none_from, yes_pick, no_pick, begin_of}
use Rattle.sheet.proofs.Lengths.{read_same, bytes_read, number_enough}
use Rattle.sheet.proofs.ReadAs.{has_row}
use Rattle.sheet.proofs.Winning.{At, here, there, winner_is}
use Rattle.sheet.proofs.Left.{either_of, read_enough}

-- no row has more than three bytes
pub few : (b : ℕ) → b < 256 → (from b).bytes < 4
few b h = ltb→lt (from b).bytes 4 (at (λ b. ltb (from b).bytes 4) 256 tt b h)

-- a first byte has some row's whole code behind it, C0h 00h among others, or begins none
some : (b : ℕ) → b < 256 → T (either (eqb (from b).bytes 0) (ltb 0 (row_number (digits (b ∷ 0xC0 ∷ 0 ∷ [])))))
unfolding row_number lines
some b h = at (λ b. either (eqb (from b).bytes 0) (ltb 0 (row_number (digits (b ∷ 0xC0 ∷ 0 ∷ []))))) 256 tt b h

-- what `sheet::timing` promises leaves one number of bytes
pub bytes_from_lem : (b n t : ℕ) → b < 256 → TimedFrom b n t → NoneFrom b n → n ≡ (from b).bytes
bytes_from_lem b n t h timed none =
    ⊎_elim
    (λ z. eqb→eq n 0 (true→T (none ∙ (sym (none_from b h) ∙ T→true (eqb (from b).bytes 0) z))) ∙ sym (eqb→eq (from b).bytes 0 z))
    (λ s.
    let k : 0 < row_number (digits (b ∷ 0xC0 ∷ 0 ∷ [])) = ltb→lt 0 _ s in
    let row : row_number (digits (b ∷ 0xC0 ∷ 0 ∷ [])) ≡ 0 → ⊥ = (λ e. omega arith) in
    sym (timed (digits (0xC0 ∷ 0 ∷ [])) row).bytes ∙ (first_byte_lem b h (digits (0xC0 ∷ 0 ∷ [])) row).bytes)
    (either_of (eqb (from b).bytes 0) (ltb 0 (row_number (digits (b ∷ 0xC0 ∷ 0 ∷ [])))) (some b h))

-- bytes that are enough are read as with any others behind them
pub read_behind : (b : ℕ) (bs cs : List ℕ) → b < 256 → (from b).bytes ≤ length (b ∷ bs) → read_bytes (b ∷ bs ++ cs) ≡ read_left (b ∷ bs)
read_behind b bs cs h k = read_same b (bs ++ cs) bs h (take-append-le (from b).bytes (b ∷ bs) cs k) ∙ sym (read_enough b bs h k)

-- one byte that is left of a longer row
abbrev cut : ℕ → Bool
cut b = too_few (digits (b ∷ []))

all_cut : T (below 256 (λ b. implies (ltb 1 (from b).bytes) (cut b)))
unfolding row_number begin_some lines
all_cut = tt

pub one_cut : (b : ℕ) → b < 256 → 1 < (from b).bytes → Err NoRow.PastEnd ≡ read_left (b ∷ [])
one_cut b h k = rw (T→true (cut b) (where_at (λ b. ltb 1 (from b).bytes) cut 256 all_cut b h (lt→ltb 1 (from b).bytes k)))

-- two bytes that are left of three: those of SLBR, whose second byte is 1100 aaaa
module _ (e : ℕ) where
  abbrev four : ℕ → ℕ → List ℕ
  four b d = b / 16 ∷ b % 16 ∷ d ∷ e ∷ []

  abbrev far : ℕ → ℕ → Bool
  far b d = both (eqb (row_number (four b d)) 0) (same (begin_some (four b d)) (eqb d 12))

  all-far : T (below 256 (λ b. implies (ltb 2 (from b).bytes) (below 16 (far b))))
  unfolding row_number begin_some lines
  all-far = tt

  far_at : (b d : ℕ) → b < 256 → d < 16 → 2 < (from b).bytes → T (far b d)
  far_at b d h k l = at (far b) 16 (where_at (λ b. ltb 2 (from b).bytes) (λ b. below 16 (far b)) 256 all-far b h (lt→ltb 2 (from b).bytes l)) d k

no_row_read : (ds : List ℕ) → row_number ds ≡ 0 → row_with (row_number ds) ds ≡ Err NoRow.Unassigned
unfolding row_with
no_row_read ds e = rw e

pub two_cut : (b c : ℕ) → b < 256 → c < 256 → 2 < (from b).bytes → pick (eqb (c / 16) 12) (Err NoRow.PastEnd) (Err NoRow.Unassigned) ≡ read_left (b ∷ c ∷ [])
two_cut b c h k l =
    let ds = four (c % 16) b (c / 16) in
    let f = far_at (c % 16) b (c / 16) h (omega arith) l in
    let row = eqb→eq (row_number ds) 0 (both_left (eqb (row_number ds) 0) (same (begin_some ds) (eqb (c / 16) 12)) f) in
    let begun = same_of (begin_some ds) (eqb (c / 16) 12) (both_right (eqb (row_number ds) 0) (same (begin_some ds) (eqb (c / 16) 12)) f) in
    rw (no_row_read ds row, row, begun)

-- a row that is read of the bytes left is read of them as of any
picked_row : (t : Bool) (r : Read) (i : Insn) → pick t (Err NoRow.PastEnd) r ≡ Ok i → r ≡ Ok i
picked_row true r i e = absurd (let z : ◌≡◌ {A = ℕ} 0 1 = cc in omega arith)
picked_row false r i e = e

pub left_row : (bs : List ℕ) (i : Insn) → read_left bs ≡ Ok i → read_bytes bs ≡ Ok i
left_row bs i e = picked_row (too_few (digits bs)) (read_bytes bs) i e

-- a row of which only the first bytes are left
begin_line : (ds : List ℕ) {ls : List Line} {j : ℕ} {l : Line} → At ls j l → T (begin_code l.codes ds) → T (begin_row ls ds)
begin_line ds {l = l} (here {ls = ls}) t = yes_pick (begin_code l.codes ds) (begin_row ls ds) t
begin_line ds (there {m = m} {ls = ls} p) t = no_pick (begin_code m.codes ds) (begin_row ls ds) (begin_line ds p t)

some_begin : (ds es : List ℕ) → (row_number (ds ++ es) ≡ 0 → ⊥) → T (begin_some ds)
unfolding row_number begin_some
some_begin ds es =
    winner_is (λ (m : ℕ). (m ≡ 0 → ⊥) → T (begin_row lines ds)) (ds ++ es) lines 1 (λ ne. absurd (ne refl))
    (λ j l p f ne. begin_line ds p (begin_of l.codes ds es f))

digits_append : (bs cs : List ℕ) → digits (bs ++ cs) ≡ digits bs ++ digits cs
digits_append [] cs = refl
digits_append (b ∷ bs) cs = ap (λ (ds : List ℕ). b / 16 ∷ b % 16 ∷ ds) (digits_append bs cs)

no_number : (b : ℕ) (bs : List ℕ) → b < 256 → length (b ∷ bs) < (from b).bytes → Dec (row_number (digits (b ∷ bs)) ≡ 0) → T (eqb (row_number (digits (b ∷ bs))) 0)
no_number b bs h k (yes e) = true→T (eq-eqb (row_number (digits (b ∷ bs))) 0 e)
no_number b bs h k (no ne) = let w : (from b).bytes ≤ length (b ∷ bs) = number_enough b bs h ne in absurd (omega arith)

pub cut_short : (b : ℕ) (bs cs : List ℕ) (i : Insn) → b < 256 → read_bytes (b ∷ bs ++ cs) ≡ Ok i → length (b ∷ bs) < bytes_of i.row → read_left (b ∷ bs) ≡ Err NoRow.PastEnd
cut_short b bs cs i h e k =
    let ds = digits (b ∷ bs) in
    let n : bytes_of i.row ≡ (from b).bytes = bytes_read b (bs ++ cs) i h e in
    let row : row_number (ds ++ digits cs) ≡ 0 → ⊥ = rw (← digits_append (b ∷ bs) cs) (has_row (digits (b ∷ bs ++ cs)) i e) in
    rw (T→true (too_few ds) (both_i (eqb (row_number ds) 0) (begin_some ds) (no_number b bs h (omega arith) (ℕ_discrete (row_number ds) 0)) (some_begin ds (digits cs) row)))
