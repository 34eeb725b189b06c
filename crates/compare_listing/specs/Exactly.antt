-- Document 02, Q-13, of the whole answer: "accept exactly the listing our runner would print, and otherwise name the first line and field that differs, a missing or extra line included (field 0 for that, the header or spacing)".
use Rattle.std.specs.Prelude.{ℕ, ◌≡◌, true, false, List, [], ◌∷◌, length, Ok}
use Rattle.device.specs.Device.{image_size, rom_of}
use Rattle.device.specs.declared.Device.{Device}
use Rattle.record.specs.Start.{fresh_machine}
use Rattle.text.specs.Digits.{characters}
use Rattle.text.specs.Script.{lines_of}
use Rattle.listing.specs.Listing.{listing_of}
use Rattle.compare_lines.specs.Lines.{Line, whole, cut, spaced}
use Rattle.compare_lines.specs.Named.{Named}
use Rattle.compare_lines.specs.declared.Compared.TheVariants.{Same, Differs}
use Rattle.compare_listing.specs.Compared.{reads_no_frame, compared_of}

abbrev pub AllSpaced : List Line → Type 0
AllSpaced [] = Unit
AllSpaced (l ∷ ls) = (spaced l ≡ true) × AllSpaced ls

-- our listing is the header and then lines of steps, each of eight fields with single blanks between, and an LF; so of their line that is spaced so too, and differs, a field is named (`FirstDiffers`)
pub record StepLines (ours : List ℕ) : Type 0 where
  pub steps : List Line
  pub lines : cut ours ≡ whole (characters "PC A H L S CZS C X") ∷ steps
  pub spacing : AllSpaced steps

pub record ComparesExactly (d : Device) (image script listing : List ℕ) : Type 0 where
  pub same_only : compared_of d image script listing ≡ Ok Same → listing ≡ listing_of d image script
  pub same_if : length image ≡ image_size d → reads_no_frame d (rom_of image) (fresh_machine d) (lines_of script) ≡ false → listing ≡ listing_of d image script → compared_of d image script listing ≡ Ok Same
  pub names : (n f : ℕ) → compared_of d image script listing ≡ Ok (Differs n f) → Named (listing_of d image script) listing n f × StepLines (listing_of d image script)

abbrev pub AllCompareExactly : Type 0
AllCompareExactly = (d : Device) (image script listing : List ℕ) → ComparesExactly d image script listing
