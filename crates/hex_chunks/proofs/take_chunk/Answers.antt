-- `hex_chunks::take_chunk` meets its contract: up to a place the chunk goes on with the text, whatever that was.
use mathlib.Core.Path.{◌≡◌, refl}
use mathlib.Core.List.{[], ◌++◌}
use Prim.Native.Nat.{◌+◌}
use lib.ListN.{take, length-append, length-take}
use native.Mathlib.Omega.{arith}
use Rattle.hex_chunks.specs.Cut.{begun_after}
use Rattle.hex_chunks.proofs.Along.{chunk_part, chunk-LF, chunk-stops, chunk-over, chunk-stopped, number_fits}
use Rattle.hex_chunks.proofs.take_chunk.Goals as goal

pub returns-then-lf-chunk-clause-by_index : goal.returns-then-lf-chunk-clause-by_index
returns-then-lf-chunk-clause-by_index c = λ text a h.
    let chunk = c.args.chunk.now in
    let b = chunk_part c.args.size text chunk c.loop-held.at c.line_end-lf.result c.line_end-lf.ensures.value (c.loop-held.invariant.along text a h) c.extend.ensures in
    rw c.reading.ensures (chunk-over c.args.size text chunk b c.if-lf-chunk.true)

pub returns-in-Err-clause-by_index : goal.returns-in-Err-clause-by_index
returns-in-Err-clause-by_index c = λ text a h.
    let chunk = c.args.chunk.now in
    let lf = c.line_end-lf.result in
    let b = chunk_part c.args.size text chunk c.loop-held.at lf c.line_end-lf.ensures.value (c.loop-held.invariant.along text a h) c.extend.ensures in
    let s = chunk-stops c.args.size text chunk c.loop-held.at lf c.line_end-lf.ensures.value (omega (arith, c.line_end-lf.ensures.upper_bound)) b (c.in-Err.ensures.by_index (begun_after [] (text ++ take lf chunk)) b.kept) refl in
    rw c.reading-in-Err.ensures (chunk-stopped c.args.size (text ++ chunk) c.in-Err.first s b.kept.most (let k = b.number in omega arith))

pub loop-held-preserved : goal.loop-held-preserved
loop-held-preserved c = record {
  size = c.complete_line.ensures.work_len;
  within = omega (arith, c.line_end-lf.ensures.upper_bound);
  along = λ text a h.
      let chunk = c.args.chunk.now in
      let lf = c.line_end-lf.result in
      let b = chunk_part c.args.size text chunk c.loop-held.at lf c.line_end-lf.ensures.value (c.loop-held.invariant.along text a h) c.extend.ensures in
      let f = number_fits c.args.size b (omega (arith, length-append text (take lf chunk), length-take lf chunk)) in
      let m : c.saturating_add-n.result ≡ c.loop-held.n + 1 = omega (arith, c.saturating_add-n.ensures) in
      chunk-LF c.args.size text chunk c.loop-held.at lf c.line_end-lf.ensures.value (omega (arith, c.line_end-lf.ensures.upper_bound)) b (c.in-Ok.ensures.by_index (begun_after [] (text ++ take lf chunk)) b.kept) c.clear.ensures m;
}
