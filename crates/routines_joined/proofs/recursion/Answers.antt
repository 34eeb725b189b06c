-- `routines_joined::recursion` meets its contract.
use Rattle.std.proofs.Common.{◌≡◌, length, refl, arith}
use Rattle.graph_search.proofs.Grown.{part-listed}
use Rattle.routines_joined.proofs.Keys.{some_same, none_some}
use Rattle.routines_joined.proofs.Refused.{recursion as recursion-of, no_recursion}
use Rattle.routines_joined.proofs.recursion.Goals as goal

pub returns-in-Some : goal.returns-in-Some
returns-in-Some c =
    let len : length c.reach-count.new.queue ≡ length c.reach-count.new.marks = omega (arith, c.reach-count.auto.queue, c.reach-count.auto.marks, c.rank_nodes.auto.below, c.requires.1.queues) in
    recursion-of _ _ c.args.joined.now.laid c.reach-count.ensures.0 (part-listed c.reach-count.ensures.1 len) c.in-Some.ensures refl c.if-key-lt-ENTRIES.true

pub returns-in_default : goal.returns-in_default
returns-in_default c =
    let len : length c.reach-count.new.queue ≡ length c.reach-count.new.marks = omega (arith, c.reach-count.auto.queue, c.reach-count.auto.marks, c.rank_nodes.auto.below, c.requires.1.queues) in
    no_recursion _ _ c.args.joined.now.laid c.reach-count.ensures.0 (part-listed c.reach-count.ensures.1 len) c.in-Some.ensures (λ k e. omega (arith, some_same e, c.if-key-lt-ENTRIES.false))

pub returns-in_default-2 : goal.returns-in_default-2
returns-in_default-2 c =
    let len : length c.reach-count.new.queue ≡ length c.reach-count.new.marks = omega (arith, c.reach-count.auto.queue, c.reach-count.auto.marks, c.rank_nodes.auto.below, c.requires.1.queues) in
    no_recursion _ _ c.args.joined.now.laid c.reach-count.ensures.0 (part-listed c.reach-count.ensures.1 len) c.in_default.ensures (λ k e. absurd (none_some e))
