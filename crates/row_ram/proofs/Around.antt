-- A stop where RAM has no place that a row names.
use mathlib.Core.Path.{◌≡◌}
use mathlib.Core.Bool.{true, false}
use mathlib.Core.List.{List}
use Prim.Native.Nat.{ℕ}
use lib.Dec.{ltb}
use Rattle.std.specs.Prelude.{Result, Err}
use Rattle.numbers.specs.declared.Stop.{Stop}
use Rattle.record.specs.Ram.{Placed}
use Rattle.record.specs.declared.Core.{Core}
use Rattle.row_ends.specs.declared.Act.{Act}
use Rattle.laws.specs.Among.{among}
use Rattle.row_ram.specs.Cells.{Does}
use Rattle.laws.proofs.Among.{Each, at_each}
use Rattle.row_ram.proofs.Absent.{Stopped}

pub stopped_there : (place : ℕ) (rows : List ℕ) (m : Core) (row a b : ℕ) (l : List ℕ) (s : Stop) (x : Result Act Stop) → x ≡ Err s → Placed (Err s) place → (ltb place 372 ≡ false → Each (Stopped m a b l) rows) → among rows row ≡ true → Does m row a b l l x
stopped_there place rows m row a b l s x e h each g = rw (e, h.0) (at_each (Stopped m a b l) rows (each (rw h.1)) row g)
