-- `compare_listing::next` meets its contract.
use mathlib.Core.Path.{sym, ◌∙◌}
use Rattle.device.specs.Device.{rom_of}
use Rattle.compare_listing.proofs.Nexting.{goes_on_frame, next-bad, next-good}
use Rattle.compare_listing.proofs.next.Goals as goal
use Rattle.compare_listing.proofs.next.Goals.{else-told-via-then-told+else-is_no_frame, else-told-via-else-told}

pub returns-then-is_no_frame : goal.returns-then-is_no_frame
returns-then-is_no_frame c =
    let t = rw c.clear.ensures at c.tell-told.ensures in
    next-bad (rom_of c.args.image.bytes.now) c.args.text.now c.requires.0 c.requires.2 c.requires.3 t c.if-told.true (sym c.is_no_frame.ensures ∙ c.if-is_no_frame.true)

pub returns : goal.returns
returns c =
    let t = rw c.clear.ensures at c.tell-told.ensures in
    let o = rw c.len.ensures.value at c.onward-turned.ensures in
    elim c.else-told.branch [
      | else-told-via-then-told+else-is_no_frame w ↦ next-good (rom_of c.args.image.bytes.now) c.args.text.now c.requires.0 c.requires.2 c.requires.3 t (sym w.is_no_frame.ensures ∙ w.if-is_no_frame.false) o
      | else-told-via-else-told w ↦ next-good (rom_of c.args.image.bytes.now) c.args.text.now c.requires.0 c.requires.2 c.requires.3 t (goes_on_frame _ _ _ _ (sym c.tell-told.ensures.ended ∙ w.if-told.false)) o
    ]
