-- Document 01, "The record" and "Instructions": which addresses RAM has, and which of them an instruction means. A place is a position in the record's list of 372 nibbles; 372 stands for an absent address, stop 31.
use Rattle.std.specs.Prelude.{ℕ, ◌+◌, ◌-◌, ◌*◌, ◌/◌, ◌%◌, ◌<◌, ◌≡◌, Result, Ok, Err, List, leb, get_or}
use Rattle.laws.specs.Choice.{pick, both}
use Rattle.numbers.specs.Sizes.{ram_nibbles}
use Rattle.numbers.specs.declared.Stop.{Stop}
use Rattle.record.specs.declared.Core.{Core}

-- "RAM: 372 nibbles, 000h to 0F3h and 100h to 17Fh."
unfoldable pub place_of : ℕ → ℕ
place_of address =
    pick (leb address 0x0F3) address
    (pick (both (leb 0x100 address) (leb address 0x17F)) (0x0F4 + (address - 0x100)) ram_nibbles)

-- "bank P9.3"
abbrev pub bank_of : Core → ℕ
bank_of m = m.ports.p9 / 8 % 2

-- "RAM by HL: bank P9.3, HR high."
abbrev pub at_hl : Core → ℕ
at_hl m = place_of (0x100 * bank_of m + 0x10 * m.regs.hr + m.regs.lr)

-- "Direct x: same bank.", and beside x the next address
abbrev pub at_x : Core → ℕ → ℕ
at_x m x = place_of (0x100 * bank_of m + x)

abbrev pub beside_x : Core → ℕ → ℕ
beside_x m x = at_x m (x + 1)

-- "Zero page: bank 0."
abbrev pub at_y : ℕ → ℕ
at_y y = place_of y

-- a place as the code gives it: where the address has none, the stop
abbrev pub Placed : Result ℕ Stop → ℕ → Type 0
Placed (Ok p) place = (p ≡ place) × (p < ram_nibbles)
Placed (Err s) place = (s ≡ Stop.AbsentRamAddress) × (place ≡ ram_nibbles)

-- what is read at a place: the nibble there
pub record Peeked (ram : List ℕ) (place r : ℕ) : Type 0 where
  pub value : r ≡ get_or ram place 0
  pub nibble : r < 16
