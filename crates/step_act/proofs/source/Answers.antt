-- `step_act::source` meets its contract.
use Prim.Native.Nat.{ℕ, ◌<◌}
use mathlib.Core.Path.{subst, sym}
use Rattle.due.proofs.Sources.{number_lt, number_tells}
use Rattle.step_act.specs.Act.{source_of}
use Rattle.step_act.proofs.source.Goals as goal

pub latch_of-requires : goal.latch_of-requires
latch_of-requires c =
    let ints = c.args.m.ints in
    subst (λ (n : ℕ). n < 6) (sym c.requires.due) (number_lt ints.il ints.mask)

pub returns-then-m : goal.returns-then-m
unfolding source_of
returns-then-m c =
    let ints = c.args.m.ints in
    rw (c.if-m.true, ← number_tells ints.il ints.mask, ← c.requires.due) c.latch_of.ensures

pub returns-else-m : goal.returns-else-m
unfolding source_of
returns-else-m c = rw c.if-m.false
