-- `routines_paths::write_paths` meets its contract.
use mathlib.Core.Path.{refl}
use native.Mathlib.Omega.{arith}
use Rattle.graph_search.proofs.Zeros.{marked_lt}
use Rattle.routines_sums.proofs.Settling.{priced_at}
use Rattle.routines_paths.specs.Paths.{first_short, second_short}
use Rattle.routines_paths.proofs.Fits.{way_roomy, deep-short, deep_roomy}
use Rattle.routines_paths.proofs.write_paths.Goals as goal

pub returns-then-path-n : goal.returns-then-path-n
returns-then-path-n c = first_short c.way_len-n.ensures refl c.if-path-n.true refl refl

pub deep_way_len-m-requires : goal.deep_way_len-m-requires
deep_way_len-m-requires c =
    let pre = c.requires in
    let lt = marked_lt c.args.d.now 0 pre.2 in
    (priced_at pre.4 pre.0, omega (arith, pre.4, lt), deep-short pre.1 _ _ _ pre.2 pre.3)

pub returns-then-deep-m : goal.returns-then-deep-m
returns-then-deep-m c = second_short c.way_len-n.ensures c.if-path-n.false c.deep_way_len-m.ensures refl c.if-deep-m.true refl refl

pub put_way-requires : goal.put_way-requires
put_way-requires c =
    let pre = c.requires in
    (pre.0, pre.1, pre.2, way_roomy _ c.way_len-n.ensures pre.3 c.if-path-n.false)

pub put_deep_way-requires : goal.put_deep_way-requires
put_deep_way-requires c =
    let pre = c.requires in
    let lt = marked_lt c.args.d.now 0 pre.2 in
    (priced_at pre.4 pre.0, omega (arith, pre.4, lt), deep_roomy _ c.deep_way_len-m.ensures c.if-deep-m.false)

pub returns : goal.returns
returns c = record { first = c.put_way.ensures; second = c.put_deep_way.ensures }
