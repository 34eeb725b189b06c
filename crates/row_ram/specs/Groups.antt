-- The rows that read or write one nibble of RAM, by how they name its place.
use Rattle.std.specs.Prelude.{ℕ, List, [], ◌∷◌}

-- LDAM, ADCAM, ADDAM, SBCAM, ANDAM, ORAM, XORAM, CMPAM, TFM
abbrev pub read_by_hl : List ℕ
read_by_hl = 2 ∷ 19 ∷ 22 ∷ 33 ∷ 36 ∷ 39 ∷ 41 ∷ 52 ∷ 66 ∷ []

-- LDA, CPMA
abbrev pub read_by_x : List ℕ
read_by_x = 1 ∷ 51 ∷ []

-- CMP, TF, TT
abbrev pub read_by_y : List ℕ
read_by_y = 50 ∷ 64 ∷ 69 ∷ []

-- STAM, STAMD, STAMI, STDMI, ADDM, DECM, INCM, SUBM, ANDM, ORM, EXAM, CLM, SEM
abbrev pub written_by_hl : List ℕ
written_by_hl = 10 ∷ 11 ∷ 12 ∷ 14 ∷ 25 ∷ 28 ∷ 31 ∷ 34 ∷ 37 ∷ 40 ∷ 45 ∷ 56 ∷ 60 ∷ []

-- STA, EXA
abbrev pub written_by_x : List ℕ
written_by_x = 9 ∷ 42 ∷ []

-- STD, ADD, CLR, SET
abbrev pub written_by_y : List ℕ
written_by_y = 13 ∷ 20 ∷ 59 ∷ 63 ∷ []
