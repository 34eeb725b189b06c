-- The notation and two lines, as the design shows them, computed from the definitions.
use mathlib.Core.Path.{◌≡◌, refl}
use mathlib.Core.List.{List, [], ◌∷◌}
use Prim.Native.Nat.{ℕ}
use Rattle.device.specs.Device.{rom_of}
use Rattle.std.specs.Prelude.{Ok, Err}
use Rattle.sheet.specs.Reading.{Read, read_bytes, row_number, row_with, begin_some}
use Rattle.sheet.specs.Table.{line_at}
use Rattle.sheet.specs.declared.NoRow.{NoRow}
use Rattle.text.specs.Digits.{characters, digit, in_base, places_of}
use Rattle.sheet.specs.Flow.{goes_to}
use Rattle.notation.specs.Notation.{sign, row_text}
use Rattle.text_lister.specs.Listing.{line_of}

abbrev code_text : ℕ → Read → List ℕ
code_text at (Ok i) = row_text at i
code_text at (Err NoRow.Unassigned) = characters "refused 30"
code_text at (Err NoRow.PastEnd) = characters "refused 35"

-- a code of two bytes that stands at 0014h
abbrev shown : ℕ → ℕ → List ℕ
shown b0 b1 = code_text 0x0014 (read_bytes (b0 ∷ b1 ∷ 0 ∷ []))

notation : (shown 0xD7 0 ≡ characters "LDIA #7h")
    × (shown 0x6A 0x43 ≡ characters "LDA 43h")
    × (shown 0x48 0x73 ≡ characters "STD #7h,3h")
    × (shown 0x6C 0x8C ≡ characters "TT Ch,0")
    × (shown 0x6F 0x1C ≡ characters "OUTA P28")
    × (shown 0x6D 0x79 ≡ characters "SEP P9,3")
    × (shown 0x63 0x77 ≡ characters "EICIL 110111B")
    × (shown 0x18 0 ≡ characters "SBR 0018h")
    × (shown 0xE0 0 ≡ characters "SCALL 0086h")
unfolding line_at row_number row_with goes_to sign digit in_base places_of
notation = (refl, refl, refl, refl, refl, refl, refl, refl, refl)

-- the bytes of document 01's worked bound, from 0000h on
abbrev rom : ℕ → ℕ
rom = rom_of (0x6A ∷ 0x20 ∷ 0x6E ∷ 0x61 ∷ 0x18 ∷ 0xD1 ∷ 0x69 ∷ 0x21 ∷ 0x4D ∷ []) 0

two_lines : (line_of rom 0 ≡ characters "0000  6A 20     LDA 20h          2 2\n")
    × (line_of rom 2 ≡ characters "0002  6E 61     ANDA #1h         2 2\n")
unfolding line_of line_at row_number row_with goes_to sign digit in_base places_of
two_lines = (refl, refl)

-- at the last address: a row of one byte, the first byte of a longer one, and one that begins none
last_lines : (line_of (λ at. 0x56) 0x1FFF ≡ characters "1FFF  56        NOP              1 1\n")
    × (line_of (λ at. 0x6A) 0x1FFF ≡ characters "1FFF  6A        refused 35\n")
    × (line_of (λ at. 0x54) 0x1FFF ≡ characters "1FFF  54        refused 30\n")
unfolding line_of line_at row_number row_with begin_some goes_to sign digit in_base places_of
last_lines = (refl, refl, refl)
