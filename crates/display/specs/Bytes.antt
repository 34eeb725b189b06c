-- The bytes as the code makes them, each of the nibbles at a place of RAM and at the next.
use Rattle.std.specs.Prelude.{ℕ, ◌+◌, ◌*◌, ◌/◌, ◌%◌, Bool, List, get_or}
use Rattle.laws.specs.Choice.{pick}

abbrev pub pair_at : List ℕ → ℕ → ℕ
pair_at ram place = get_or ram place 0 + 16 * get_or ram (place + 1) 0

-- byte j of the forty, of whether the display is on and RAM
abbrev pub byte_in : Bool → List ℕ → ℕ → ℕ
byte_in on ram j = pick on (pair_at ram (0x20 + 16 * (j / 5) + 2 * (j % 5))) 0
