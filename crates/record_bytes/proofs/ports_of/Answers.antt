-- `record_bytes::ports_of` meets its contract.
use mathlib.Core.Path.{refl}
use native.Mathlib.Omega.{arith}
use Rattle.record_bytes.specs.Layout.{latch_bytes}
use Rattle.record_bytes.proofs.Parts.{listed_part}
use Rattle.record_bytes.proofs.ports_of.Goals as goal

pub returns : goal.returns
unfolding latch_bytes
returns c =
    let a = c.args.head.now in
    record { latches = listed_part a 5 11 (omega (arith, c.requires)); p3 = refl; p5 = refl; p6 = refl; p17 = refl }
