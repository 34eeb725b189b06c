-- `routines_counted::reached::step_over` meets its contract.
use mathlib.Core.Path.{◌≡◌, refl, sym, ◌∙◌}
use mathlib.Core.Logic.{inl, inr}
use native.Mathlib.Omega.{arith}
use Rattle.routines_numbered.specs.Packed.{kind_in, node_in}
use Rattle.routines_counted.proofs.reached.step_over.Goals as goal

pub returns-in-1 : goal.returns-in-1
unfolding node_in
returns-in-1 c =
    let k : kind_in c.args.word ≡ 1 = sym c.kind_of.ensures ∙ c.in-1.is in
    record { goes = inl k; next = c.next_of-next.ensures; other = c.other_of.ensures ∙ rw k refl }

pub returns-in-3 : goal.returns-in-3
unfolding node_in
returns-in-3 c =
    let k : kind_in c.args.word ≡ 3 = sym c.kind_of.ensures ∙ c.in-3.is in
    record { goes = inr k; next = c.next_of-next.ensures; other = c.next_of-next.ensures ∙ rw k refl }

pub returns-in_default : goal.returns-in_default
unfolding node_in
returns-in_default c =
    let d = c.in_default in
    record { not_on = λ e. let z : c.kind_of.result ≡ 1 = c.kind_of.ensures ∙ e in omega arith; no_call = λ e. let z : c.kind_of.result ≡ 3 = c.kind_of.ensures ∙ e in omega arith }
