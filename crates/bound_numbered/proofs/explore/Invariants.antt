-- `bound_numbered::explore` meets its contract.
use mathlib.Core.Path.{◌≡◌}
use Prim.Native.Nat.{◌-◌, ◌≤◌}
use lib.ListN.{length}
use Rattle.device.specs.Device.{rom_of}
use Rattle.bound_numbered.proofs.Reading.{Exploring}
use Rattle.bound_numbered.proofs.explore.Given as goal

abbrev pub invariant-loop-head : goal.invariant-loop-head
invariant-loop-head l = Exploring l.d (rom_of l.image l.p3) l.address l.words l.map l.count l.head × (length l.map ≡ 16384) × (length l.words ≡ 16384) × (l.head ≤ l.count)

abbrev pub decreases-loop-head : goal.decreases-loop-head
decreases-loop-head l = 16384 - l.head
