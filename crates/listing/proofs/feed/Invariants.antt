-- `listing::feed` meets its contract: the lines before `used` are told.
use Prim.Native.Nat.{◌-◌}
use lib.ListN.{length}
use Rattle.device.specs.Device.{rom_of}
use Rattle.record.specs.With.{assembled}
use Rattle.listing.proofs.Feeding.{Feeding}
use Rattle.listing.proofs.feed.Given as goal

abbrev pub invariant-loop-end : goal.invariant-loop-end
invariant-loop-end g l = Feeding l.image.device (rom_of l.image.bytes.now) (assembled l.initial.core l.initial.ram) l.part l.initial.out l.out (assembled l.core l.ram) l.used

abbrev pub decreases-loop-end : goal.decreases-loop-end
decreases-loop-end g l = length l.part - l.used
