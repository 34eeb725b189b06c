-- `routines_bound::settle` meets its contract.
use mathlib.Core.Path.{refl, sym}
use lib.ListN.{length, replicate}
use Rattle.graph_search.proofs.Zeros.{blank_zeros}
use Rattle.routines_bound.proofs.Parts.{part_length, part_blank}
use Rattle.routines_bound.proofs.settle.Goals as goal

pub sums-requires : goal.sums-requires
sums-requires c =
    let pre = c.requires in
    let n = length c.args.d.now in
    (pre.0, pre.1, pre.2, pre.3, pre.4, sym (part_length n (replicate 16384 0) refl pre.0.few), sym (part_length n (replicate 16384 0) refl pre.0.few), part_blank n (replicate 16384 0) pre.0.few (blank_zeros 16384))
