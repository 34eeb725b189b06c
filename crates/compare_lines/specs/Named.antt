-- What it means that a line and a field are named: they differ, and all before them is the same.
use Rattle.std.specs.Prelude.{ℕ, ◌+◌, ◌<◌, ◌≡◌, true, List, [], ◌∷◌, get_or, take, drop}
use Rattle.compare_lines.specs.Lines.{Line, cut, parts_of, spaced, difference_of}
use Rattle.compare_lines.specs.declared.Compared.TheVariants.{Same, Differs}

-- field f of two lines differs, the fields before it are the same, and theirs is spaced as a line has to be
pub record FieldNamed (ours theirs : Line) (f : ℕ) : Type 0 where
  pub spacing : spaced theirs ≡ true
  pub before : ℕ
  pub field : f ≡ 1 + before
  pub same : take before (parts_of ours.text) ≡ take before (parts_of theirs.text)
  pub within : before < 8
  pub differs : get_or (parts_of ours.text) before [] ≡ get_or (parts_of theirs.text) before [] → ⊥

-- the first lines of what is left: one is missing or extra, and the field is 0; or they differ, and the field differs, or it is 0, "the header or spacing": of a line that is not the header and is
-- spaced as ours is, a field is named
abbrev pub FirstDiffers : ℕ → List Line → List Line → ℕ → Type 0
FirstDiffers n [] [] f = ⊥
FirstDiffers n [] (t ∷ ts) f = f ≡ 0
FirstDiffers n (o ∷ os) [] f = f ≡ 0
FirstDiffers n (o ∷ os) (t ∷ ts) f = (o ≡ t → ⊥) × (n ≡ 1 → f ≡ 0) × (0 < f → FieldNamed o t f) × (spaced o ≡ true → spaced t ≡ true → (n ≡ 1 → ⊥) → 0 < f)

-- line n differs in field f, and the lines before it are the same, where the first line has the number `from`
pub record LineNamed (from : ℕ) (ours theirs : List Line) (n f : ℕ) : Type 0 where
  pub before : ℕ
  pub line : n ≡ from + before
  pub same : take before ours ≡ take before theirs
  pub differs : FirstDiffers n (drop before ours) (drop before theirs) f

-- line n and field f of two listings
abbrev pub Named : List ℕ → List ℕ → ℕ → ℕ → Type 0
Named ours theirs n f = LineNamed 1 (cut ours) (cut theirs) n f

-- "accept exactly the listing our runner would print, and otherwise name the first line and field that differs"
pub record Tells (ours theirs : List ℕ) : Type 0 where
  pub same_only : difference_of ours theirs ≡ Same → ours ≡ theirs
  pub same_if : ours ≡ theirs → difference_of ours theirs ≡ Same
  pub names : (n f : ℕ) → difference_of ours theirs ≡ Differs n f → Named ours theirs n f

abbrev pub DifferenceTells : Type 0
DifferenceTells = (ours theirs : List ℕ) → Tells ours theirs
