-- Document 01, "The record": "A script is one frame a line, ended by LF, the last line perhaps by nothing".
use Rattle.std.specs.Prelude.{ℕ, suc, Bool, List, [], ◌∷◌, eqb}
use Prim.Native.Char.{code}
use Rattle.laws.specs.Choice.{pick}

abbrev pub is_lf : ℕ → Bool
is_lf c = eqb c (code "\n")

-- a character before the first line, which is new where there is none yet
abbrev pub on_first : ℕ → List (List ℕ) → List (List ℕ)
on_first c [] = (c ∷ []) ∷ []
on_first c (l ∷ ls) = (c ∷ l) ∷ ls

-- a script's lines, without their LF: none after the last LF
abbrev pub lines_of : List ℕ → List (List ℕ)
lines_of [] = []
lines_of (c ∷ cs) = pick (is_lf c) ([] ∷ lines_of cs) (on_first c (lines_of cs))

-- how many characters stand before the first LF; all of them where there is none
abbrev pub up_to : List ℕ → ℕ
up_to [] = 0
up_to (c ∷ cs) = pick (is_lf c) 0 (suc (up_to cs))
