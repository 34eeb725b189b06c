-- `routines_counted::pruned::fork_links` meets its contract.
use mathlib.Core.Path.{refl}
use native.Mathlib.Omega.{arith}
use Rattle.routines_counted.specs.Nodes.{ForkLinks}
use Rattle.routines_counted.proofs.pruned.fork_links.Goals as goal

pub returns-then-lives_at-2 : goal.returns-then-lives_at-2
returns-then-lives_at-2 c =
    let a = c.lives_at.ensures.0 c.if-lives_at.true in
    let b = c.lives_at-then-lives_at.ensures.0 c.if-lives_at-2.true in
    (ForkLinks.both a b refl refl, record { next = a.node; other = b.node; into = omega arith })

pub returns-then-lives_at : goal.returns-then-lives_at
returns-then-lives_at c =
    let a = c.lives_at.ensures.0 c.if-lives_at.true in
    (ForkLinks.only_next a (c.lives_at-then-lives_at.ensures.1 c.if-lives_at-2.false) refl refl, record { next = a.node; other = a.node; into = omega arith })

pub returns-then-lives_at-3 : goal.returns-then-lives_at-3
returns-then-lives_at-3 c =
    let b = c.lives_at-2.ensures.0 c.if-lives_at-3.true in
    (ForkLinks.only_other (c.lives_at.ensures.1 c.if-lives_at.false) b refl refl, record { next = b.node; other = b.node; into = omega arith })

pub returns : goal.returns
returns c = (ForkLinks.neither (c.lives_at.ensures.1 c.if-lives_at.false) (c.lives_at-2.ensures.1 c.if-lives_at-3.false) refl refl, record { next = omega arith; other = omega arith; into = omega arith })
