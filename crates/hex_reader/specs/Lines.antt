-- Document 02, Q-3: "lines ending in LF or CRLF, the last perhaps in none".
use Rattle.std.specs.Prelude.{ℕ, ◌≤◌, ◌<◌, ◌-◌, ◌≡◌, Bool, false, List, [], ◌∷◌, eqb, length, drop}
use Prim.Native.Char.{code}
use Rattle.laws.specs.Choice.{pick, both}
use Rattle.text.specs.Script.{is_lf, on_first}
use Rattle.hex_reader.specs.declared.lines.LineOf.{LineOf}

abbrev pub is_cr : ℕ → Bool
is_cr c = eqb c (code "\r")

abbrev pub begins_lf : List ℕ → Bool
begins_lf [] = false
begins_lf (c ∷ cs) = is_lf c

-- a text's lines without their endings: a CR before an LF belongs to the ending, any other to its line; no line after the last LF
abbrev pub hex_lines : List ℕ → List (List ℕ)
hex_lines [] = []
hex_lines (c ∷ cs) =
    pick (is_lf c) ([] ∷ hex_lines cs) (pick (both (is_cr c) (begins_lf cs)) (hex_lines cs) (on_first c (hex_lines cs)))

-- the characters before an LF, without the CR that may end them
abbrev pub without_cr : List ℕ → List ℕ
without_cr [] = []
without_cr (c ∷ []) = pick (is_cr c) [] (c ∷ [])
without_cr (c ∷ d ∷ cs) = c ∷ without_cr (d ∷ cs)

-- the line that begins at a place, and where the next one begins
pub record LineAt (text : List ℕ) (at : ℕ) (r : LineOf) : Type 0 where
  pub first : hex_lines (drop at text) ≡ r.line.now ∷ hex_lines (drop r.next text)
  pub size : length r.line.now ≤ r.next - at
  pub later : at < r.next
  pub within : r.next ≤ length text
