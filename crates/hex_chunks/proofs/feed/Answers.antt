-- `hex_chunks::feed` meets its contract.
use mathlib.Core.Path.{refl}
use Rattle.hex_chunks.proofs.Answers.{feed-on}
use Rattle.hex_chunks.proofs.feed.Goals as goal

pub returns : goal.returns
returns c =
    let z = c.in_default.ensures.right refl in
    let k = c.in-Some.ensures in
    rw c.told_of-2.ensures (feed-on c.args.size c.args.s c.args.work.now c.args.chunk.now c.args.image.now c.in-Some.stage k.1 k.0 _ _ c.take_chunk-state.result c.make_ready.ensures.readied c.take_chunk-state.ensures.by_index c.take_chunk-state.ensures.work_len z.0 z.1)
