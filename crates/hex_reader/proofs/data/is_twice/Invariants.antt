-- `hex_reader::data::is_twice` meets its contract: up to k no address was given.
use mathlib.Core.Path.{◌≡◌}
use mathlib.Core.Bool.{false}
use Prim.Native.Nat.{ℕ, ◌+◌, ◌<◌}
use Rattle.hex_reader.specs.Work.{bit_of}
use Rattle.hex_reader.proofs.data.is_twice.Given as goal

abbrev pub invariant-loop-k : goal.invariant-loop-k
invariant-loop-k l = (j : ℕ) → j < l.k → bit_of l.size l.work (l.address + j) ≡ false
