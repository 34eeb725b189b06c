-- `routines_joined::judge` meets its contract.
use Rattle.std.proofs.Common.{◌≡◌, length, arith}
use Rattle.graph_search.proofs.Grown.{part-listed}
use Rattle.routines_joined.specs.Refused.{Judges}
use Rattle.routines_joined.proofs.Refused.{bad-high, excluded, no_bad, loop-high, repeats, no_loop}
use Rattle.routines_joined.proofs.judge.Goals as goal

pub overflow_sub-result : goal.overflow_sub-result
overflow_sub-result c =
    let len : length c.reach-count.new.queue ≡ length c.reach-count.new.marks = omega (arith, c.reach-count.auto.queue, c.reach-count.auto.marks, c.rank_nodes.auto.below, c.requires.1.queues) in
    bad-high _ _ c.args.joined.now.laid c.reach-count.ensures.0 (part-listed c.reach-count.ensures.1 len) c.in-Some.ensures

pub returns-in-Some : goal.returns-in-Some
unfolding Judges
returns-in-Some c =
    let len : length c.reach-count.new.queue ≡ length c.reach-count.new.marks = omega (arith, c.reach-count.auto.queue, c.reach-count.auto.marks, c.rank_nodes.auto.below, c.requires.1.queues) in
    excluded _ _ c.args.joined.now.laid c.reach-count.ensures.0 (part-listed c.reach-count.ensures.1 len) c.in-Some.ensures

pub overflow_sub-result-in-Some-lowest_repetition : goal.overflow_sub-result-in-Some-lowest_repetition
overflow_sub-result-in-Some-lowest_repetition c =
    let len : length c.reach-count.new.queue ≡ length c.reach-count.new.marks = omega (arith, c.reach-count.auto.queue, c.reach-count.auto.marks, c.rank_nodes.auto.below, c.requires.1.queues) in
    loop-high _ _ c.args.joined.now.laid c.reach-count.ensures.0 (part-listed c.reach-count.ensures.1 len) c.requires.2 c.requires.3 c.in-Some-lowest_repetition.ensures

pub returns-in-Some-lowest_repetition : goal.returns-in-Some-lowest_repetition
unfolding Judges
returns-in-Some-lowest_repetition c =
    let len : length c.reach-count.new.queue ≡ length c.reach-count.new.marks = omega (arith, c.reach-count.auto.queue, c.reach-count.auto.marks, c.rank_nodes.auto.below, c.requires.1.queues) in
    repeats _ _ c.args.joined.now.laid c.reach-count.ensures.0 (part-listed c.reach-count.ensures.1 len) c.requires.2 c.requires.3 c.in-Some-lowest_repetition.ensures (no_bad _ _ c.args.joined.now.laid c.reach-count.ensures.0 (part-listed c.reach-count.ensures.1 len) c.in_default.ensures)

pub returns : goal.returns
unfolding Judges
returns c =
    let len : length c.reach-count.new.queue ≡ length c.reach-count.new.marks = omega (arith, c.reach-count.auto.queue, c.reach-count.auto.marks, c.rank_nodes.auto.below, c.requires.1.queues) in
    record {
      no_bad = no_bad _ _ c.args.joined.now.laid c.reach-count.ensures.0 (part-listed c.reach-count.ensures.1 len) c.in_default.ensures;
      no_loop = no_loop _ _ c.args.joined.now.laid c.reach-count.ensures.0 (part-listed c.reach-count.ensures.1 len) c.in_default-lowest_repetition.ensures;
      lists = record { marks = _; reached = c.reach-count.ensures.0; listed = c.reach-count.ensures.1 };
    }
