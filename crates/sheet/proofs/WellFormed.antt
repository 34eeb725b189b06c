-- The texts of the table are well formed: one test over all rows, carried to each of them.
use mathlib.Core.Bool.{Bool, true}
use mathlib.Core.List.{List, [], ◌∷◌}
use Prim.Native.String.{String}
use lib.Dec.{T}
use lib.Text.{eqt, eqt→eq}
use Rattle.laws.specs.Choice.{both}
use Rattle.laws.proofs.Computed.{both_left, both_right, T→true}
use Rattle.sheet.specs.Code.{Group, #, all, fixed1, fixed2, fixed3, above2, groups_of, has_sign}
use Rattle.sheet.specs.Table.{mark, PrintedCode, Printed, printed}
use Rattle.sheet.specs.WellFormed.{written_out, LetterKnown, Each, CodeWellFormed, printed_mark, IsMark, RowWellFormed, TableWellFormed}

-- a test of each of a list, and what it tests of each
abbrev pub every : {A : Type 0} → (A → Bool) → List A → Bool
every f [] = true
every f (x ∷ xs) = both (f x) (every f xs)

each : {A : Type 0} {P : A → Type 0} (f : A → Bool) → ((x : A) → T (f x) → P x) → (xs : List A) → T (every f xs) → Each P xs
each f p [] t = tt
each f p (x ∷ xs) t = (p x (both_left (f x) (every f xs) t), each f p xs (both_right (f x) (every f xs) t))

abbrev letter_known : Group → Bool
letter_known (# v) = true
letter_known (all l) = has_sign "xkabrnyp" l
letter_known (fixed1 v l) = has_sign "xkabrnyp" l
letter_known (fixed2 v l) = has_sign "xkabrnyp" l
letter_known (fixed3 v l) = has_sign "xkabrnyp" l
letter_known (above2 l v) = has_sign "xkabrnyp" l

letter_known_lem : (g : Group) → T (letter_known g) → LetterKnown g
letter_known_lem (# v) t = tt
letter_known_lem (all l) t = T→true (has_sign "xkabrnyp" l) t
letter_known_lem (fixed1 v l) t = T→true (has_sign "xkabrnyp" l) t
letter_known_lem (fixed2 v l) t = T→true (has_sign "xkabrnyp" l) t
letter_known_lem (fixed3 v l) t = T→true (has_sign "xkabrnyp" l) t
letter_known_lem (above2 l v) t = T→true (has_sign "xkabrnyp" l) t

abbrev is_whole : PrintedCode → Bool
is_whole c = eqt (written_out (groups_of c.text)) c.text

abbrev code_test : PrintedCode → Bool
code_test c = both (is_whole c) (every letter_known (groups_of c.text))

code_by : (c : PrintedCode) → T (code_test c) → CodeWellFormed c
code_by c t =
    let lettersTest = every letter_known (groups_of c.text) in
    record {
      whole = eqt→eq (written_out (groups_of c.text)) c.text (both_left (is_whole c) lettersTest t);
      letters = each letter_known letter_known_lem (groups_of c.text) (both_right (is_whole c) lettersTest t);
    }

abbrev mark_test : String → Bool
mark_test t = eqt (printed_mark (mark t)) t

mark_by : (t : String) → T (mark_test t) → IsMark t
mark_by t h = eqt→eq (printed_mark (mark t)) t h

abbrev marks_test : Printed → Bool
marks_test p = both (mark_test p.c) (both (mark_test p.z) (mark_test p.s))

abbrev row_test : Printed → Bool
row_test p = both (every code_test p.codes) (marks_test p)

row_by : (p : Printed) → T (row_test p) → RowWellFormed p
row_by p t =
    let marks = both_right (every code_test p.codes) (marks_test p) t in
    let later = both_right (mark_test p.c) (both (mark_test p.z) (mark_test p.s)) marks in
    record {
      codes = each code_test code_by p.codes (both_left (every code_test p.codes) (marks_test p) t);
      c = mark_by p.c (both_left (mark_test p.c) (both (mark_test p.z) (mark_test p.s)) marks);
      z = mark_by p.z (both_left (mark_test p.z) (mark_test p.s) later);
      s = mark_by p.s (both_right (mark_test p.z) (mark_test p.s) later);
    }

-- the one test over the whole table
all_well_formed : T (every row_test printed)
all_well_formed = tt

pub table_well_formed : TableWellFormed
table_well_formed = each row_test row_by printed all_well_formed
