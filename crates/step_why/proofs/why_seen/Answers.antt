-- `step_why::why_seen` meets its contract.
use mathlib.Core.Path.{◌≡◌, sym, ◌∙◌}
use native.Mathlib.Omega.{arith}
use Rattle.step_why.proofs.Sources.{none-due, due-none}
use Rattle.step_why.proofs.Reasons.{disabled, nothing, masked, refuses, takes, taken_by}
use Rattle.step_why.proofs.why_seen.Goals as goal

pub returns-then-not-ei : goal.returns-then-not-ei
returns-then-not-ei c = disabled c.args.m c.if-not-ei.true

pub returns-then-il-eq0 : goal.returns-then-il-eq0
returns-then-il-eq0 c = nothing c.args.m c.if-not-ei.false c.if-il-eq0.true

pub returns-in-None : goal.returns-in-None
returns-in-None c =
    let set = c.due_set-due.ensures in
    masked c.args.m c.if-not-ei.false c.if-il-eq0.false _ set (set ∙ due-none _ _ c.requires.il c.requires.mask c.in-None.ensures)

pub returns-then-can_push : goal.returns-then-can_push
returns-then-can_push c =
    let set = c.due_set-due.ensures in
    let source = c.in-Some.ensures in
    let some = λ (z : c.due_set-due.result ≡ 0). let six = none-due _ _ c.requires.il c.requires.mask (sym set ∙ z) in absurd (omega (arith, six, source.0, source.1)) in
    taken_by _ _ _ _ _ _ set source.0 c.weight.ensures c.without_bit.ensures
    ∙ takes c.args.m c.if-not-ei.false c.if-il-eq0.false _ set some (sym c.can_push.ensures ∙ c.if-can_push.true)

pub returns-else-can_push : goal.returns-else-can_push
returns-else-can_push c =
    let set = c.due_set-due.ensures in
    let source = c.in-Some.ensures in
    let some = λ (z : c.due_set-due.result ≡ 0). let six = none-due _ _ c.requires.il c.requires.mask (sym set ∙ z) in absurd (omega (arith, six, source.0, source.1)) in
    refuses c.args.m c.if-not-ei.false c.if-il-eq0.false _ set some (sym c.can_push.ensures ∙ c.if-can_push.false)
