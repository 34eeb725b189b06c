-- `routines_sums::settle` meets its contract.
use mathlib.Core.Path.{refl, sym, ◌∙◌}
use native.Mathlib.Omega.{arith}
use Rattle.routines_numbered.specs.Packed.{node_in, nodes_in}
use Rattle.routines_sums.specs.Dist.{ends, has, out, next_waits, other_waits}
use Rattle.routines_sums.specs.Ways.{costs_in}
use Rattle.routines_sums.proofs.Settling.{settle_keep, way-lt, cost_pos, spent-value, spent-over, settle_new}
use Rattle.routines_sums.proofs.settle.Goals as goal

pub returns-then-d-v-ne0 : goal.returns-then-d-v-ne0
returns-then-d-v-ne0 c =
    let pre = c.requires in
    let if1 = c.if-d-v-ne0 in
    settle_keep pre.1 (has (omega (arith, if1.true)))

pub returns-then-kind-eq2 : goal.returns-then-kind-eq2
unfolding costs_in nodes_in node_in
returns-then-kind-eq2 c =
    let pre = c.requires in
    let if1 = c.if-d-v-ne0 in
    let way_of = c.way_of-way in
    let if2 = c.if-kind-eq2 in
    let cost-of = c.cost_of-cost in
    settle_new _ _ _ (cost_pos pre.0 _ pre.3) pre.1 pre.2 pre.3 _ _ if1.false (omega (arith, cost-of.ensures)) (ends (sym way_of.ensures.kind ∙ if2.true) cost-of.ensures refl)

pub returns-then-stays : goal.returns-then-stays
returns-then-stays c =
    let stays = c.stays in
    let if3 = c.if-stays in
    let pre = c.requires in
    let way_of = c.way_of-way in
    let if2 = c.if-kind-eq2 in
    let s = stays.ensures.neither if3.true in settle_keep pre.1 (out (λ e. s.0 (way_of.ensures.kind ∙ e)) (λ e. if2.false (way_of.ensures.kind ∙ e)) (λ e. s.1 (way_of.ensures.kind ∙ e)))

pub offset_bounds-d-i : goal.offset_bounds-d-i
offset_bounds-d-i c =
    let pre = c.requires in
    let way_of = c.way_of-way in
    omega (arith, pre.0.few, (way-lt pre.0 _ pre.3 way_of.ensures).0)

pub bounds-d-i : goal.bounds-d-i
bounds-d-i c =
    let pre = c.requires in
    let way_of = c.way_of-way in
    (way-lt pre.0 _ pre.3 way_of.ensures).0

pub returns-then-a-eq0 : goal.returns-then-a-eq0
returns-then-a-eq0 c =
    let pre = c.requires in
    let if2 = c.if-kind-eq2 in
    let way_of = c.way_of-way in
    let if4 = c.if-a-eq0 in
    settle_keep pre.1 (next_waits (λ e. if2.false (way_of.ensures.kind ∙ e)) (rw way_of.ensures.next at if4.true))

pub offset_bounds-d-j : goal.offset_bounds-d-j
offset_bounds-d-j c =
    let pre = c.requires in
    let way_of = c.way_of-way in
    omega (arith, pre.0.few, (way-lt pre.0 _ pre.3 way_of.ensures).1)

pub bounds-d-j : goal.bounds-d-j
bounds-d-j c =
    let pre = c.requires in
    let way_of = c.way_of-way in
    (way-lt pre.0 _ pre.3 way_of.ensures).1

pub returns-then-b-eq0 : goal.returns-then-b-eq0
returns-then-b-eq0 c =
    let pre = c.requires in
    let if2 = c.if-kind-eq2 in
    let way_of = c.way_of-way in
    let if5 = c.if-b-eq0 in
    settle_keep pre.1 (other_waits (λ e. if2.false (way_of.ensures.kind ∙ e)) (rw way_of.ensures.other at if5.true))

pub spent-sum-requires : goal.spent-sum-requires
spent-sum-requires c =
    let cost-of = c.cost_of-cost in
    let pre = c.requires in
    (omega (arith, cost-of.ensures), pre.1.fits _, pre.1.fits _)

pub returns-then-sum-gt65535 : goal.returns-then-sum-gt65535
unfolding costs_in nodes_in node_in
returns-then-sum-gt65535 c =
    let pre = c.requires in
    let way_of = c.way_of-way in
    let cost-of = c.cost_of-cost in
    let stays = c.stays in
    let if3 = c.if-stays in
    let spent = c.spent-sum in
    settle_keep pre.1 (spent-over _ _ _ _ way_of.ensures cost-of.ensures spent.ensures (stays.ensures.one if3.false) c.if-sum-gt65535.true)

pub offset_bounds-dep-i : goal.offset_bounds-dep-i
offset_bounds-dep-i c =
    let pre = c.requires in
    let way_of = c.way_of-way in
    omega (arith, pre.0.few, (way-lt pre.0 _ pre.3 way_of.ensures).0)

pub bounds-dep-i : goal.bounds-dep-i
bounds-dep-i c =
    let pre = c.requires in
    let way_of = c.way_of-way in
    omega (arith, pre.2, (way-lt pre.0 _ pre.3 way_of.ensures).0)

pub offset_bounds-dep-j : goal.offset_bounds-dep-j
offset_bounds-dep-j c =
    let pre = c.requires in
    let way_of = c.way_of-way in
    omega (arith, pre.0.few, (way-lt pre.0 _ pre.3 way_of.ensures).1)

pub bounds-dep-j : goal.bounds-dep-j
bounds-dep-j c =
    let pre = c.requires in
    let way_of = c.way_of-way in
    omega (arith, pre.2, (way-lt pre.0 _ pre.3 way_of.ensures).1)

pub level-requires : goal.level-requires
level-requires c =
    let pre = c.requires in
    let way_of = c.way_of-way in
    omega (arith, pre.0.few, pre.1.deep way_of.result.first)

pub returns : goal.returns
unfolding costs_in nodes_in node_in
returns c =
    let pre = c.requires in
    let if1 = c.if-d-v-ne0 in
    let way_of = c.way_of-way in
    let cost-of = c.cost_of-cost in
    let stays = c.stays in
    let if3 = c.if-stays in
    let if4 = c.if-a-eq0 in
    let if5 = c.if-b-eq0 in
    let spent = c.spent-sum in
    let if6 = c.if-sum-gt65535 in
    let level = c.level in
    settle_new _ _ _ (cost_pos pre.0 _ pre.3) pre.1 pre.2 pre.3 _ _ if1.false (omega (arith, if6.false))
    (spent-value _ _ _ _ way_of.ensures cost-of.ensures spent.ensures _ _ (stays.ensures.one if3.false) if4.false if5.false level.ensures)
