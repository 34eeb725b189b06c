-- Which rows each function of this crate is for, by their numbers in the sheet, the last arm's row first.
use Rattle.std.specs.Prelude.{ℕ, List, [], ◌∷◌}

-- EXAL, EXAH, TLA, THA, LDL, LDIA, LDH
abbrev pub moves : List ℕ
moves = 44 ∷ 43 ∷ 16 ∷ 15 ∷ 8 ∷ 7 ∷ 5 ∷ []

-- ORA, ANDA, SUBA, INCL, INCA, DECL, DECA, ADDL, ADDH, ADDA, RRCA, RLCA
abbrev pub makes : List ℕ
makes = 38 ∷ 35 ∷ 32 ∷ 30 ∷ 29 ∷ 27 ∷ 26 ∷ 24 ∷ 23 ∷ 21 ∷ 18 ∷ 17 ∷ []

-- NOP, TZS, TTCFS, TFCFC, TFA, CMPL, CMPIA, CMPH
abbrev pub asks : List ℕ
asks = 87 ∷ 81 ∷ 80 ∷ 79 ∷ 65 ∷ 55 ∷ 54 ∷ 53 ∷ []

-- SLBR, LBR, SBR
abbrev pub branches : List ℕ
branches = 49 ∷ 48 ∷ 47 ∷ []
