-- The names of the interrupt sources, as characters. Sentences in quotation marks are of docs/PROGRAMS.md.
use Rattle.std.specs.Prelude.{ℕ, ◌^◌, List, [], ◌∷◌, ◌++◌, eqb}
use Rattle.laws.specs.Choice.{pick}
use Rattle.bits.specs.Bits.{has_bit}
use Rattle.device.specs.Device.{ends_speech}
use Rattle.device.specs.declared.Device.{Device}
use Rattle.text.specs.Digits.{characters, joined}

-- "INT0, TRGA, TRGB, TBI, INT1 (IL5, IL3, IL2, IL1, IL0 ..)" (document 01), by the latch's number; Q-6: "the speech ending interrupt takes IL0". IL4 is of no source
unfoldable pub source_name : Device → ℕ → List ℕ
source_name d latch =
    pick (eqb latch 5) (characters "INT0")
    (pick (eqb latch 3) (characters "TRGA")
    (pick (eqb latch 2) (characters "TRGB")
    (pick (eqb latch 1) (characters "TBI") (pick (ends_speech d) (characters "SPI") (characters "INT1")))))

-- the name of a source after a blank, where the set has it
abbrev pub name_in : Device → ℕ → ℕ → List ℕ
name_in d set latch = pick (has_bit set (2 ^ latch)) (characters " " ++ source_name d latch) []

-- "Sources stand in the order of priority."
abbrev pub names_of : Device → ℕ → List ℕ
names_of d set = joined (name_in d set 5 ∷ name_in d set 3 ∷ name_in d set 2 ∷ name_in d set 1 ∷ name_in d set 0 ∷ [])
