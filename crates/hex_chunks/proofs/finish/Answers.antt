-- `hex_chunks::finish` meets its contract.
use mathlib.Core.Path.{refl}
use Rattle.hex_chunks.proofs.Answers.{end-good, end_refused}
use Rattle.hex_chunks.proofs.finish.Goals as goal

pub returns-in-Ok : goal.returns-in-Ok
returns-in-Ok c =
    let z = c.in_default.ensures.right refl in
    let k = c.in-Some.ensures in
    end-good c.args.size c.args.s c.args.work.now c.args.image.now c.in-Some.stage k.1 k.0 _ _ c.make_ready.ensures.readied c.in-Ok.ensures.by_index _ refl refl refl refl refl _ z.0 z.1 c.copy_image.ensures

pub returns-in-Err-conclude_text : goal.returns-in-Err-conclude_text
returns-in-Err-conclude_text c =
    let z = c.in_default.ensures.right refl in
    let k = c.in-Some.ensures in
    rw c.reading.ensures (end_refused c.args.size c.args.s c.args.work.now c.args.image.now c.in-Some.stage k.1 k.0 _ _ c.make_ready.ensures.readied c.in-Err-conclude_text.first c.in-Err-conclude_text.ensures.by_index _ refl refl refl refl z.0 z.1)
