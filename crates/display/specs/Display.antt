-- Document 01, "Display": which dots are on, and the forty bytes that say so.
use Rattle.std.specs.Prelude.{ℕ, ◌+◌, ◌*◌, ◌/◌, ◌%◌, ◌^◌, ◌<◌, ◌≤◌, Bool, Result, Ok, Err, List, ◌≡◌, eqb, length, get_or, drop}
use Rattle.laws.specs.Choice.{both}
use Rattle.bits.specs.Bits.{has_bit}
use Rattle.numbers.specs.declared.Refusal.{Refusal}
use Rattle.device.specs.declared.Device.{Device}
use Rattle.record.specs.Valid.{Valid}
use Rattle.record.specs.declared.Machine.{Machine}

-- "all zero unless P27 is 11xx"
abbrev pub is_on : Machine → Bool
is_on m = eqb (m.core.ports.p27 / 4) 3

-- "Row c, dot s is bit s mod 4 of RAM 20h + 16c + s/4 (rounded down)." These addresses are below 0F4h, so each is its own place in the list.
abbrev pub dot_of : Machine → ℕ → ℕ → Bool
dot_of m c s = both (is_on m) (has_bit (get_or m.ram (0x20 + 16 * c + s / 4) 0) (2 ^ (s % 4)))

-- "Forty bytes, five a row, low nibble first": eight dots a byte, so that dot s of row c is bit s mod 8 of byte 5c + s/8
abbrev pub is_lit : List ℕ → ℕ → ℕ → Bool
is_lit bytes c s = has_bit (get_or bytes (5 * c + s / 8) 0) (2 ^ (s % 8))

-- the buffer shows each dot of the eight rows of forty; a byte is its eight dots, so that these determine the forty; "Later bytes stay."
pub record Shows (m : Machine) (before after : List ℕ) : Type 0 where
  pub dots : (c s : ℕ) → c < 8 → s < 40 → is_lit after c s ≡ dot_of m c s
  pub bytes : (j : ℕ) → j < 40 → get_or after j 0 < 256
  pub later : drop 40 after ≡ drop 40 before
  pub size : length after ≡ length before

-- "A refusal changes no buffer."
pub record Refused (why : Refusal) (before after : List ℕ) (r : Result Unit Refusal) : Type 0 where
  pub answer : r ≡ Err why
  pub kept : after ≡ before

-- what the call gives, in the table's order, and leaves in the buffer
pub record DisplayOf (d : Device) (m : Machine) (before after : List ℕ) (r : Result Unit Refusal) : Type 0 where
  pub outside : (Valid d m → ⊥) → Refused Refusal.RecordOutsideTheRanges before after r
  pub short : Valid d m → length before < 40 → Refused Refusal.DisplayBufferUnder40Bytes before after r
  pub shown : Valid d m → 40 ≤ length before → (r ≡ Ok tt) × Shows m before after
