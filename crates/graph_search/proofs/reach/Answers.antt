-- `graph_search::reach` meets its contract: what stands before the head of the queue has its successors marked; the head comes to the end, since no more can be queued than there are places.
use Rattle.std.proofs.Common.{refl, ◌∙◌, arith}
use Rattle.graph_search.proofs.Zeros.{wide16}
use Rattle.graph_search.proofs.Grown.{room_blank, room_grown}
use Rattle.graph_search.proofs.Search.{search-start, search-more, search-end, search-listed, head_lt}
use Rattle.graph_search.proofs.reach.Goals as goal

pub mark-count-requires : goal.mark-count-requires
mark-count-requires g c =
    let pre = c.requires in
    (room_blank _ _ c.clear.ensures (omega (arith, c.clear.auto.marks, pre.2)) (omega (arith, c.clear.auto.marks, pre.1)), omega (arith, c.clear.auto.marks, pre.3))

pub loop-head-init : goal.loop-head-init
loop-head-init g c =
    let pre = c.requires in (
      refl,
      refl,
      room_grown (room_blank _ _ c.clear.ensures (omega (arith, c.clear.auto.marks, pre.2)) (omega (arith, c.clear.auto.marks, pre.1))) c.mark-count.ensures.0 c.mark-count.auto.marks c.mark-count.auto.queue,
      search-start c.clear.ensures c.mark-count.ensures,
    )

pub offset_bounds-queue-head : goal.offset_bounds-queue-head
offset_bounds-queue-head g c = omega (arith, c.loop-head.invariant.2.small, c.loop-head.invariant.2.room, c.loop-head-test.true)

pub bounds-queue-head : goal.bounds-queue-head
bounds-queue-head g c = omega (arith, c.loop-head.invariant.2.len, c.loop-head.invariant.2.room, c.loop-head-test.true)

pub overflow_cast-v : goal.overflow_cast-v
overflow_cast-v g c = wide16 (c.type_inv.queue _)

pub visit-count-requires : goal.visit-count-requires
visit-count-requires g c =
    let pre = c.requires in
    (omega (arith, pre.0, c.loop-head.invariant.0, c.mark-count.auto.marks, c.clear.auto.marks), c.loop-head.invariant.2, head_lt c.loop-head.invariant.3 c.loop-head-test.true)

pub overflow_add-head : goal.overflow_add-head
overflow_add-head g c = omega (arith, c.loop-head.invariant.2.small, c.loop-head.invariant.2.room, c.loop-head-test.true)

pub loop-head-smaller : goal.loop-head-smaller
loop-head-smaller g c = omega (arith, c.visit-count.auto.marks, c.loop-head.invariant.2.room, c.loop-head-test.true)

pub loop-head-preserved : goal.loop-head-preserved
loop-head-preserved g c = (
  c.visit-count.auto.marks ∙ c.loop-head.invariant.0,
  c.visit-count.auto.queue ∙ c.loop-head.invariant.1,
  room_grown c.loop-head.invariant.2 c.visit-count.ensures.0 c.visit-count.auto.marks c.visit-count.auto.queue,
  search-more c.loop-head.invariant.3 c.loop-head-test.true c.visit-count.ensures,
)

pub shape_of-marks : goal.shape_of-marks
shape_of-marks g c = omega (arith, c.loop-head.invariant.0, c.mark-count.auto.marks, c.clear.auto.marks)

pub shape_of-queue : goal.shape_of-queue
shape_of-queue g c = omega (arith, c.loop-head.invariant.1, c.mark-count.auto.queue)

pub returns : goal.returns
returns g c = (search-end c.loop-head.invariant.3 c.loop-head-test.false, search-listed c.loop-head.invariant.2 c.loop-head.invariant.3 c.loop-head-test.false)
