-- `text_lister::line::listing` meets its contract: the sweep from `at` is left for the lines that are not done.
use native.Mathlib.Omega.{arith}
use Prim.Native.Nat.{◌-◌}
use mathlib.Core.List.{append-nil}
use Rattle.std.proofs.lemmas.Grind.{common_steps}
use Rattle.device.specs.Device.{rom_of}
use Rattle.text_lister.proofs.Sweeps.{listing-past, listing_none, listing-more}
use Rattle.text_lister.proofs.line.listing.Goals as goal

pub returns-then-at-ge-ADDRESSES : goal.returns-then-at-ge-ADDRESSES
returns-then-at-ge-ADDRESSES g c =
    let rom = rom_of c.args.window.bytes.now c.args.window.p3 in
    rw (listing-past rom c.loop-done.at (c.args.count - c.loop-done.done) c.if-at-ge-ADDRESSES.true, append-nil) at c.loop-done.invariant.text

pub loop-done-preserved : goal.loop-done-preserved
loop-done-preserved g c =
    let rom = rom_of c.args.window.bytes.now c.args.window.p3 in
    let more = listing-more rom c.loop-done.at (c.args.count - c.loop-done.done) (omega arith) (omega arith) in
    record { text = grind (arith, common_steps, more); room = omega arith }

pub returns : goal.returns
returns g c =
    let rom = rom_of c.args.window.bytes.now c.args.window.p3 in
    rw (listing_none rom c.loop-done.at {n = c.args.count - c.loop-done.done} (omega arith), append-nil) at c.loop-done.invariant.text
