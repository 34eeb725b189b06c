-- `routines_known::loses` meets its contract.
use mathlib.Core.Path.{sym, ◌∙◌}
use mathlib.Core.Logic.{inl, inr}
use Prim.Native.Nat.{◌<◌}
use native.Mathlib.Omega.{arith}
use lib.ListN.{get_or}
use Rattle.routines_numbered.specs.Packed.{node_in, nodes_in}
use Rattle.routines_known.specs.Marking.{flow_on, by_next, by_other, past_known, past_unknown}
use Rattle.routines_known.proofs.Settling.{judge-ret, judge-fork, judge-call, judge-out, mark_tells, parity}
use Rattle.routines_known.proofs.loses.Goals as goal

pub bounds-marks-other_of : goal.bounds-marks-other_of
unfolding nodes_in node_in
bounds-marks-other_of c = omega (arith, c.other_of.ensures, (c.requires.0.links _ c.requires.1).other)

pub bounds-marks-next_of : goal.bounds-marks-next_of
unfolding nodes_in node_in
bounds-marks-next_of c = omega (arith, c.next_of.ensures, (c.requires.0.links _ c.requires.1).next)

pub bounds-marks-other_of-then-kind-eq3 : goal.bounds-marks-other_of-then-kind-eq3
unfolding nodes_in node_in
bounds-marks-other_of-then-kind-eq3 c = omega (arith, c.other_of-then-kind-eq3.ensures, (c.requires.0.links _ c.requires.1).other)

pub bounds-marks-into_of : goal.bounds-marks-into_of
unfolding nodes_in node_in
bounds-marks-into_of c = omega (arith, c.into_of.ensures, (c.requires.0.links _ c.requires.1).into)

pub bounds-marks-next_of-then-marks-into_of-ne0 : goal.bounds-marks-next_of-then-marks-into_of-ne0
unfolding nodes_in node_in
bounds-marks-next_of-then-marks-into_of-ne0 c = omega (arith, c.next_of-then-marks-into_of-ne0.ensures, (c.requires.0.links _ c.requires.1).next)

pub returns-then-kind-eq4 : goal.returns-then-kind-eq4
unfolding flow_on nodes_in node_in
returns-then-kind-eq4 c = rw c.place_of.ensures (judge-ret _ _ _ (sym c.kind_of-kind.ensures ∙ c.if-kind-eq4.true) (parity _).0 (parity _).1)

pub returns-then-marks-other_of-ne0 : goal.returns-then-marks-other_of-ne0
unfolding flow_on nodes_in node_in
returns-then-marks-other_of-ne0 c =
    mark_tells _ (λ h. by_other (sym c.kind_of-kind.ensures ∙ c.if-kind-eq1.true) (rw c.other_of.ensures at h)) (λ e l. c.if-marks-other_of-ne0.true e)

pub returns-else-marks-other_of-ne0 : goal.returns-else-marks-other_of-ne0
unfolding flow_on nodes_in node_in
returns-else-marks-other_of-ne0 c =
    let k = sym c.kind_of-kind.ensures ∙ c.if-kind-eq1.true in
    mark_tells _ (λ h. by_next k (rw c.next_of.ensures at h)) (λ e l. judge-fork _ _ _ k (rw c.other_of.ensures at c.if-marks-other_of-ne0.false) (rw c.next_of.ensures at e) l)

pub returns-then-marks-other_of-ne0-2 : goal.returns-then-marks-other_of-ne0-2
unfolding flow_on nodes_in node_in
returns-then-marks-other_of-ne0-2 c =
    mark_tells _ (λ h. past_known (sym c.kind_of-kind.ensures ∙ c.if-kind-eq3.true) (rw c.other_of-then-kind-eq3.ensures at h)) (λ e l. c.if-marks-other_of-ne0-2.true e)

pub returns-then-marks-into_of-ne0 : goal.returns-then-marks-into_of-ne0
unfolding flow_on nodes_in node_in
returns-then-marks-into_of-ne0 c =
    let k = sym c.kind_of-kind.ensures ∙ c.if-kind-eq3.true in
    let into : 0 < get_or c.args.marks.now c.into_of.result 0 = omega (arith, c.if-marks-into_of-ne0.true) in
    mark_tells _ (λ h. past_unknown k (rw c.into_of.ensures at into) (rw c.next_of-then-marks-into_of-ne0.ensures at h))
    (λ e l. judge-call _ _ _ k (rw c.other_of-then-kind-eq3.ensures at c.if-marks-other_of-ne0-2.false) (inr (rw c.next_of-then-marks-into_of-ne0.ensures at e)) l)

pub returns-else-marks-into_of-ne0 : goal.returns-else-marks-into_of-ne0
unfolding flow_on nodes_in node_in
returns-else-marks-into_of-ne0 c =
    let k = sym c.kind_of-kind.ensures ∙ c.if-kind-eq3.true in
    mark_tells _ (λ h. absurd (omega (arith, c.if-marks-into_of-ne0.false, h)))
    (λ e l. judge-call _ _ _ k (rw c.other_of-then-kind-eq3.ensures at c.if-marks-other_of-ne0-2.false) (inl (rw c.into_of.ensures at e)) l)

pub returns-else-kind-eq3 : goal.returns-else-kind-eq3
unfolding flow_on nodes_in node_in
returns-else-kind-eq3 c = judge-out _ _ _ (λ e. c.if-kind-eq4.false (c.kind_of-kind.ensures ∙ e)) (λ e. c.if-kind-eq1.false (c.kind_of-kind.ensures ∙ e)) (λ e. c.if-kind-eq3.false (c.kind_of-kind.ensures ∙ e))
