-- The display as a picture, a sign for each dot. Sentences in quotation marks are of docs/PROGRAMS.md.
use Rattle.std.specs.Prelude.{ℕ, zero, suc, Bool, List, [], ◌∷◌, ◌++◌}
use Rattle.laws.specs.Choice.{pick}
use Rattle.text.specs.Digits.{characters}
use Rattle.record.specs.declared.Machine.{Machine}
use Rattle.display.specs.Display.{dot_of}
use Rattle.text_screen.specs.declared.Form.{Form}
use Rattle.text_screen.specs.declared.Form.TheVariants.{Signs, Pbm}

-- "`#` where it is on and `.` where it is off"; as PBM "1 and 0": 35, 46, 49 and 48
abbrev pub sign_of : Form → Bool → ℕ
sign_of Signs on = pick on 35 46
sign_of Pbm on = pick on 49 48

-- the signs of the first n dots of a row, dot 0 on the left
unfoldable pub signs_of : Form → (ℕ → Bool) → ℕ → List ℕ
signs_of form dot zero = []
signs_of form dot (suc n) = signs_of form dot n ++ (sign_of form (dot n) ∷ [])

-- "eight lines of forty signs": the first n lines, document 01's row 0 on top
unfoldable pub lines_of : Form → (ℕ → ℕ → Bool) → ℕ → List ℕ
lines_of form dot zero = []
lines_of form dot (suc n) = lines_of form dot n ++ (signs_of form (dot n) 40 ++ (10 ∷ []))

-- "a plain PBM": its number and its width and height
abbrev pub opening_of : Form → List ℕ
opening_of Signs = []
opening_of Pbm = characters "P1\n40 8\n"

unfoldable pub screen_text : Form → Machine → List ℕ
screen_text form m = opening_of form ++ lines_of form (dot_of m) 8
