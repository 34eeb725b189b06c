-- Document 02, Q-13: "accept exactly the listing our runner would print, and otherwise name the first line and field that differs, a missing or extra line included (field 0 for that, the header or spacing)".
use Rattle.std.specs.Prelude.{ℕ, zero, suc, ◌+◌, Bool, true, false, not, List, [], ◌∷◌, eqb}
use Prim.Native.Char.{code}
use Rattle.text.specs.Same.{same_text}
use Rattle.laws.specs.Choice.{pick, both}
use Rattle.text.specs.Script.{is_lf, on_first}
use Rattle.compare_lines.specs.declared.Compared.{Compared}
use Rattle.compare_lines.specs.declared.Compared.TheVariants.{Same, Differs}

-- a line of a listing: its characters, and whether an LF ends it, as it does each but perhaps the last
pub record Line : Type 0 where
  pub text : List ℕ
  pub ended : Bool

abbrev pub whole : List ℕ → Line
whole text = record { text = text; ended = true }

-- a character before the first line, which is new where there is none yet
abbrev pub on_line : ℕ → List Line → List Line
on_line c [] = record { text = c ∷ []; ended = false } ∷ []
on_line c (l ∷ ls) = record { text = c ∷ l.text; ended = l.ended } ∷ ls

-- a text's lines: none after the last LF
abbrev pub cut : List ℕ → List Line
cut [] = []
cut (c ∷ cs) = pick (is_lf c) (whole [] ∷ cut cs) (on_line c (cut cs))

abbrev pub is_blank : ℕ → Bool
is_blank c = eqb c (code " ")

-- what stands before, between and after the blanks of a line. A CR is a character like any other
abbrev pub parts_of : List ℕ → List (List ℕ)
parts_of [] = [] ∷ []
parts_of (c ∷ cs) = pick (is_blank c) ([] ∷ parts_of cs) (on_first c (parts_of cs))

abbrev pub full : List ℕ → Bool
full [] = false
full (c ∷ cs) = true

-- so many parts, none of them empty
abbrev pub full_parts : ℕ → List (List ℕ) → Bool
full_parts zero [] = true
full_parts zero (p ∷ ps) = false
full_parts (suc n) [] = false
full_parts (suc n) (p ∷ ps) = both (full p) (full_parts n ps)

-- the spacing is right: eight fields with single blanks between, and an LF
abbrev pub spaced : Line → Bool
spaced l = both l.ended (full_parts 8 (parts_of l.text))

abbrev pub same_end : Bool → Bool → Bool
same_end true b = b
same_end false b = not b

abbrev pub same_line : Line → Line → Bool
same_line o t = both (same_end o.ended t.ended) (same_text o.text t.text)

-- the first of the fields that differs, counted from n; 0 where one line has a field more
abbrev pub field_from : ℕ → List (List ℕ) → List (List ℕ) → ℕ
field_from n [] qs = 0
field_from n (p ∷ ps) [] = 0
field_from n (p ∷ ps) (q ∷ qs) = pick (same_text p q) (field_from (n + 1) ps qs) n

-- which field of their line n differs from ours, PC A H L S CZS C X being 1 to 8: "field 0 for .. the header or spacing"
abbrev pub field_of : ℕ → Line → Line → ℕ
field_of n o t = pick (eqb n 1) 0 (pick (spaced t) (field_from 1 (parts_of o.text) (parts_of t.text)) 0)

-- "the first line and field that differs, a missing or extra line included", the lines counted from n
abbrev pub differ_from : ℕ → List Line → List Line → Compared
differ_from n [] [] = Same
differ_from n [] (t ∷ ts) = Differs n 0
differ_from n (o ∷ os) [] = Differs n 0
differ_from n (o ∷ os) (t ∷ ts) = pick (same_line o t) (differ_from (n + 1) os ts) (Differs n (field_of n o t))

-- our listing and theirs; the header is line 1
unfoldable pub difference_of : List ℕ → List ℕ → Compared
difference_of ours theirs = differ_from 1 (cut ours) (cut theirs)
