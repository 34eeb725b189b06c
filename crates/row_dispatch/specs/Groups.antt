-- Which function executes a row: its group's.
use Rattle.std.specs.Prelude.{ℕ, ◌+◌, ◌*◌, ◌/◌, ◌%◌, ◌^◌, ◌<◌, ◌≤◌, get_or, true, List, [], ◌∷◌, ◌≡◌}
use Rattle.numbers.specs.Sizes.{addresses}
use Rattle.laws.specs.Among.{among}
use Rattle.sheet.specs.declared.Insn.{Insn}
use Rattle.row_dispatch.specs.declared.groups.Group.{Group}
use Rattle.row_registers.specs.Groups as registers
use Rattle.row_ram.specs.Groups as ram
use Rattle.row_ram_pair.specs.Groups as pair
use Rattle.row_pointers.specs.Groups as pointers
use Rattle.row_control.specs.Groups as control
use Rattle.row_ports.specs.Groups as ports

-- LDAX; LDAXI
abbrev pub rom_low : List ℕ
rom_low = 3 ∷ []

abbrev pub rom_high : List ℕ
rom_high = 4 ∷ []

-- INM; OUTM
abbrev pub port_to_cell : List ℕ
port_to_cell = 75 ∷ []

abbrev pub cell_to_port : List ℕ
cell_to_port = 78 ∷ []

-- a group's place in the enum
abbrev pub place_of : Group → ℕ
place_of Group.Moves = 0
place_of Group.Makes = 1
place_of Group.Asks = 2
place_of Group.Branches = 3
place_of Group.GetPointer = 4
place_of Group.GetTimer = 5
place_of Group.ReadByHl = 6
place_of Group.ReadByX = 7
place_of Group.ReadByY = 8
place_of Group.LoadPair = 9
place_of Group.WriteByHl = 10
place_of Group.WriteByX = 11
place_of Group.WriteByY = 12
place_of Group.SwapPair = 13
place_of Group.SetPointer = 14
place_of Group.SetTimer = 15
place_of Group.RomLow = 16
place_of Group.RomHigh = 17
place_of Group.Latches = 18
place_of Group.Returns = 19
place_of Group.Calls = 20
place_of Group.WritePort = 21
place_of Group.ReadPort = 22
place_of Group.PortToCell = 23
place_of Group.CellToPort = 24

-- the rows of the group at a place
abbrev pub rows_at : ℕ → List ℕ
rows_at n =
    get_or
    (registers.moves ∷ registers.makes ∷ registers.asks ∷ registers.branches ∷ pointers.load_pointer ∷ pointers.load_timer ∷ ram.read_by_hl ∷ ram.read_by_x ∷ ram.read_by_y ∷ pair.loads ∷ ram.written_by_hl ∷ ram.written_by_x ∷ ram.written_by_y ∷ pair.exchanges ∷ pointers.store_pointer ∷ pointers.store_timer ∷ rom_low ∷ rom_high ∷ control.latches ∷ control.returns ∷ control.calls ∷ ports.writing ∷ ports.reading ∷ port_to_cell ∷ cell_to_port ∷ [])
    n []

abbrev pub rows_of : Group → List ℕ
rows_of g = rows_at (place_of g)

-- what the operands of a group's rows stay below
abbrev pub limit_a : Group → ℕ
limit_a Group.Moves = 16
limit_a Group.Makes = 16
limit_a Group.Asks = 16
limit_a Group.Branches = addresses
limit_a Group.GetPointer = 1
limit_a Group.GetTimer = 1
limit_a Group.ReadByHl = 16
limit_a Group.ReadByX = 256
limit_a Group.ReadByY = 16
limit_a Group.LoadPair = 256
limit_a Group.WriteByHl = 16
limit_a Group.WriteByX = 256
limit_a Group.WriteByY = 16
limit_a Group.SwapPair = 256
limit_a Group.SetPointer = 1
limit_a Group.SetTimer = 1
limit_a Group.RomLow = 1
limit_a Group.RomHigh = 1
limit_a Group.Latches = 64
limit_a Group.Returns = 1
limit_a Group.Calls = addresses
limit_a Group.WritePort = 16
limit_a Group.ReadPort = 16
limit_a Group.PortToCell = 1
limit_a Group.CellToPort = 1

abbrev pub limit_b : ℕ
limit_b = 32

pub record InGroup (g : Group) (i : Insn) : Type 0 where
  pub row : among (rows_of g) i.row ≡ true
  pub a : i.a < limit_a g
  pub b : i.b < limit_b

-- the groups of the eight rows from row 8n on, as far as they are rows of the sheet, a byte a row from the lowest up
pub record Packs (n w : ℕ) : Type 0 where
  pub same : (k : ℕ) → k < 8 → 1 ≤ 8 * n + k → 8 * n + k < 108 → among (rows_at (w / 2 ^ (8 * k) % 256)) (8 * n + k) ≡ true
  pub few : (k : ℕ) → k < 8 → 1 ≤ 8 * n + k → 8 * n + k < 108 → w / 2 ^ (8 * k) % 256 < 25
