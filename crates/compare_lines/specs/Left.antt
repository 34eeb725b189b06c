-- What is still to be answered when our listing is known up to a line of ours, and theirs up to some character.
use Rattle.std.specs.Prelude.{ℕ, suc, ◌+◌, ◌-◌, ◌<◌, ◌≤◌, eqb, ◌≡◌, Bool, true, false, not, List, [], ◌∷◌, ◌++◌, length, get_or, take, drop}
use Rattle.laws.specs.Choice.{pick, both, either}
use Rattle.text.specs.Script.{is_lf}
use Rattle.compare_lines.specs.Lines.{is_blank, cut, differ_from}
use Rattle.compare_lines.specs.declared.Compared.{Compared}
use Rattle.compare_lines.specs.declared.Compared.TheVariants.{Differs}
use Rattle.compare_lines.specs.declared.Form.{Form}
use Rattle.compare_lines.specs.declared.Form.TheVariants.{Open, Spaced, Broken}
use Rattle.compare_lines.specs.declared.Phase.{Phase}
use Rattle.compare_lines.specs.declared.Phase.TheVariants.{Matching, Judging, Found}
use Rattle.compare_lines.specs.declared.Heard.{Heard}
use Rattle.compare_lines.specs.declared.Turned.{Turned}

-- the spacing of the rest of a line, so many blanks being left and the present field being empty or not
abbrev pub spaced_from : ℕ → Bool → List ℕ → Bool
spaced_from left empty [] = false
spaced_from left empty (c ∷ cs) =
    pick (is_lf c) (both (not empty) (eqb left 0))
    (pick (is_blank c) (pick (either empty (eqb left 0)) false (spaced_from (left - 1) true cs)) (spaced_from left false cs))

abbrev pub spaced_of : Form → List ℕ → Bool
spaced_of (Open left empty) rest = spaced_from left empty rest
spaced_of Spaced rest = true
spaced_of Broken rest = false

-- line n, which is our text `line` and after it `ours`, where theirs goes on with `theirs`: up to a place it is ours; or a field of it differs and its spacing is to be judged; or all is known
abbrev pub left_of : Phase → ℕ → List ℕ → List ℕ → List ℕ → Compared
left_of (Matching at) n line ours theirs = differ_from n (cut (line ++ ours)) (cut (take at line ++ theirs))
left_of (Judging field left empty) n line ours theirs = Differs n (pick (spaced_from left empty theirs) field 0)
left_of (Found field) n line ours theirs = Differs n field

abbrev pub plain : List ℕ → Bool
plain [] = true
plain (c ∷ cs) = pick (is_lf c) false (plain cs)

-- a text that is one line of at most 26 characters
pub record OneLine (text : List ℕ) : Type 0 where
  pub body : List ℕ
  pub ended : text ≡ body ++ (10 ∷ [])
  pub alone : plain body ≡ true
  pub short : length text ≤ 26

abbrev pub blanks_in : List ℕ → ℕ
blanks_in [] = 0
blanks_in (c ∷ cs) = pick (is_blank c) (suc (blanks_in cs)) (blanks_in cs)

-- one line ends where the other has one more field
abbrev pub clash : ℕ → ℕ → Bool
clash a c = either (both (is_blank a) (is_lf c)) (both (is_lf a) (is_blank c))

-- our line is matched, or a difference is found, or being judged: nothing of it is waited for
abbrev pub settled : Phase → ℕ → Bool
settled (Matching at) size = eqb at size
settled (Judging field left empty) size = true
settled (Found field) size = true

-- the place of a phase is in the line
abbrev pub Placed : Phase → ℕ → Type 0
Placed (Matching at) size = at ≤ size
Placed (Judging field left empty) size = Unit
Placed (Found field) size = Unit

-- so many characters of a part are ours from a place on, and no more
pub record Runs (line : List ℕ) (at : ℕ) (part : List ℕ) (r : ℕ) : Type 0 where
  pub same : (rest : List ℕ) → take at line ++ (part ++ rest) ≡ take (at + r) line ++ (drop r part ++ rest)
  pub placed : at + r ≤ length line
  pub used : r ≤ length part
  pub parted : at + r < length line → r < length part → get_or line (at + r) 0 ≡ get_or part r 0 → ⊥

-- of a part of theirs some characters are used: whatever ours and theirs go on with, the answer stays; and where characters are left, our line is matched to its end
pub record Hears (phase : Phase) (n : ℕ) (line part : List ℕ) (r : Heard) : Type 0 where
  pub same : (ours rest : List ℕ) → left_of phase n line ours (part ++ rest) ≡ left_of r.phase n line ours (drop r.used part ++ rest)
  pub used : r.used ≤ length part
  pub all : r.used < length part → r.phase ≡ Matching (length line)
  pub placed : Placed r.phase (length line)

-- the same, where theirs goes on with nothing if this is its last part: then nothing of our line is waited for
pub record Heeds (phase : Phase) (n : ℕ) (line part : List ℕ) (last : Bool) (r : Heard) : Type 0 where
  pub same : (ours rest : List ℕ) → (last ≡ true → rest ≡ []) → left_of phase n line ours (part ++ rest) ≡ left_of r.phase n line ours (drop r.used part ++ rest)
  pub used : r.used ≤ length part
  pub all : r.used < length part → r.phase ≡ Matching (length line)
  pub placed : Placed r.phase (length line)
  pub waits : settled r.phase (length line) ≡ false → (last ≡ false) × (r.used ≡ length part)

-- theirs has ended: whatever ours goes on with, the answer stays, and nothing of our line is waited for
pub record CutShort (phase : Phase) (size : ℕ) (r : Phase) : Type 0 where
  pub same : (n : ℕ) (line ours : List ℕ) → OneLine line → length line ≡ size → left_of phase n line ours [] ≡ left_of r n line ours []
  pub settles : settled r size ≡ true
  pub placed : Placed r size

-- our next line comes
pub record Onward (phase : Phase) (n size : ℕ) (r : Turned) : Type 0 where
  pub same : (line next ours theirs : List ℕ) → OneLine line → length line ≡ size → left_of phase n line (next ++ ours) theirs ≡ left_of r.phase r.line next ours theirs
  pub placed : (other : ℕ) → Placed r.phase other
  pub line : r.line ≤ n + 1
