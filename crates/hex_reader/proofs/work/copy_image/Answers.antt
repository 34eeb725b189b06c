-- `hex_reader::work::copy_image` meets its contract: up to i the image is copied.
use Rattle.std.proofs.Common.{◌≡◌, refl, ◌∙◌, arith, length-set}
use Rattle.hex_reader.proofs.work.Fills.{copied_more, copied_all}
use Rattle.hex_reader.proofs.work.copy_image.Goals as goal

pub loop-i-init : goal.loop-i-init
loop-i-init c = (refl, refl)

pub loop-i-preserved : goal.loop-i-preserved
loop-i-preserved c =
    let l = c.loop-i in
    (length-set l.image l.i _ ∙ l.invariant.0, copied_more l.image c.args.work.now l.i l.invariant.1 (omega arith) (omega arith))

pub returns : goal.returns
returns c = copied_all _ _ c.args.work.now c.loop-i.i c.loop-i.invariant.1 c.loop-i.invariant.0 (omega arith)
