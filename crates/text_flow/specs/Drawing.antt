-- The lines of the program flow, in Graphviz's DOT. Sentences in quotation marks are of docs/PROGRAMS.md.
use Rattle.std.specs.Prelude.{ℕ, ◌/◌, Bool, true, false, List, ◌++◌, eqb}
use Rattle.laws.specs.Choice.{pick}
use Rattle.text.specs.Digits.{characters, hex}
use Rattle.text_lister.specs.Listing.{columns_of}
use Rattle.bound_calls.specs.declared.CallNode.{CallNode}
use Rattle.text_flow.specs.declared.Look.{Look}
use Rattle.text_flow.specs.declared.Look.TheVariants.{Plain, Bold, Red}
use Rattle.text_flow.specs.declared.Stroke.{Stroke}
use Rattle.text_flow.specs.declared.Taken.{Taken}

-- "N's path is bold .. red"
abbrev pub look_text : Look → List ℕ
look_text Plain = characters ""
look_text Bold = characters " style=bold"
look_text Red = characters " color=red"

-- "a box with the lister's line"
abbrev pub box_line_of : (ℕ → ℕ) → ℕ → Look → List ℕ
box_line_of rom at look = characters "  \"" ++ (hex 4 at ++ (characters "\" [label=\"" ++ (columns_of rom at ++ (characters "\"" ++ (look_text look ++ characters "];\n")))))

abbrev pub stroke_text : Stroke → List ℕ
stroke_text s =
    pick s.dashed
    (pick s.bold (characters " [style=\"dashed,bold\"]") (characters " [style=dashed]"))
    (pick s.bold (characters " [style=bold]") (characters ""))

-- from one address to another
abbrev pub arrow_line_of : ℕ → ℕ → Stroke → List ℕ
arrow_line_of at to stroke = characters "  \"" ++ (hex 4 at ++ (characters "\" -> \"" ++ (hex 4 to ++ (characters "\"" ++ (stroke_text stroke ++ characters ";\n")))))

-- an arrow that N's path takes is bold
abbrev pub solid_of : Bool → Stroke
solid_of bold = record { dashed = false; bold = bold }

abbrev pub dashed_of : Bool → Stroke
dashed_of bold = record { dashed = true; bold = bold }

-- a place's address is half of it: the target's arrow, where the next instruction is another
unfoldable pub second_arrow : ℕ → CallNode → Bool → List ℕ
second_arrow at x bold = pick (eqb x.next x.other) (characters "") (arrow_line_of at (x.other / 2) (solid_of bold))

-- "an arrow to each place that may follow .. of a call a dashed one into its routine, and one to the place after it"
unfoldable pub arrows_of : ℕ → CallNode → Taken → List ℕ
arrows_of at x taken =
    pick (eqb x.kind 3) (arrow_line_of at x.entry (dashed_of taken.other) ++ arrow_line_of at (x.next / 2) (solid_of taken.next))
    (pick (eqb x.kind 1) (arrow_line_of at (x.next / 2) (solid_of taken.next) ++ second_arrow at x taken.other) (characters ""))
