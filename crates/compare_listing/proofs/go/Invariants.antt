-- `compare_listing::go` meets its contract.
use Prim.Native.Nat.{◌-◌}
use lib.ListN.{length}
use Rattle.device.specs.Device.{rom_of}
use Rattle.compare_listing.proofs.Going.{Going}
use Rattle.compare_listing.proofs.go.Given as goal

abbrev pub invariant-loop-present : goal.invariant-loop-present
invariant-loop-present l = Going l.image.device (rom_of l.image.bytes.now) l.initial.present l.initial.ram l.initial.ours l.script l.listing l.last l.present l.ram l.ours l.read l.heard

abbrev pub decreases-loop-present : goal.decreases-loop-present
decreases-loop-present l = length l.script - l.read
