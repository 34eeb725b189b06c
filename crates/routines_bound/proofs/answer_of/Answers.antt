-- `routines_bound::answer_of` meets its contract.
use mathlib.Core.Path.{refl}
use Rattle.std.proofs.lemmas.Result.{err_from_is_err_and}
use native.Mathlib.Omega.{arith}
use Rattle.graph_search.proofs.Zeros.{wide16}
use Rattle.routines_bound.specs.Handler.{too_large, short, bounds}
use Rattle.routines_bound.proofs.Answers.{falls}
use Rattle.routines_bound.proofs.answer_of.Goals as goal

pub returns-then-cycles-eq0 : goal.returns-then-cycles-eq0
returns-then-cycles-eq0 c =
    let if1 = c.if-cycles-eq0 in
    too_large if1.true refl refl

pub write_paths-requires : goal.write_paths-requires
write_paths-requires c =
    let pre = c.requires in
    let if1 = c.if-cycles-eq0 in
    (pre.0, falls pre.0 pre.3, omega (arith, if1.false), pre.3.fits 0, pre.2)

pub returns-in_err-write_paths : goal.returns-in_err-write_paths
returns-in_err-write_paths c =
    let p = err_from_is_err_and c.from_residual.result c.from_residual.ensures.1 in
    rw (p.1, p.2) (short (omega (arith, c.if-cycles-eq0.false)) c.in_err-write_paths.ensures)

pub overflow_cast-result : goal.overflow_cast-result
overflow_cast-result c =
    let pre = c.requires in
    omega (arith, pre.3.fits 0)

pub overflow_cast-result-2 : goal.overflow_cast-result-2
overflow_cast-result-2 c =
    wide16 (c.type_inv.dep _)

pub returns : goal.returns
returns c = bounds (omega (arith, c.if-cycles-eq0.false)) c.in_ok-write_paths.ensures refl refl
