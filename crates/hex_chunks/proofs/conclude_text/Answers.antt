-- `hex_chunks::conclude_text` meets its contract.
use mathlib.Core.Path.{◌≡◌, refl, sym, ◌∙◌}
use mathlib.Core.List.{[]}
use Prim.Native.Nat.{◌+◌}
use borrow.Author.Tests.{eqb-true, eqb-false}
use native.Mathlib.Omega.{arith}
use Rattle.std.specs.Prelude.{Ok, Err}
use Rattle.std.proofs.lemmas.Result.{err_from_is_err_and}
use Rattle.hex_chunks.specs.Cut.{begun_after}
use Rattle.hex_chunks.proofs.Along.{number_fits}
use Rattle.hex_chunks.proofs.Ends.{over, over_last, fault_ends}
use Rattle.hex_chunks.proofs.conclude_text.Goals as goal

pub returns-then-is_empty-clause-by_index : goal.returns-then-is_empty-clause-by_index
returns-then-is_empty-clause-by_index c = λ text a h.
    let e = eqb-true c.args.held.now.count 0 (sym c.is_empty.ensures ∙ c.if-is_empty.true) in
    over c.args.size text c.args.work.now c.args.held.now c.args.n c.args.stage a e c.conclude.result (c.conclude.ensures c.args.size c.args.work.now)

pub returns-in_err-last-clause-by_index : goal.returns-in_err-last-clause-by_index
returns-in_err-last-clause-by_index c = λ text a h.
    let p = err_from_is_err_and c.from_residual.result c.from_residual.ensures.1 in
    let e = eqb-false c.args.held.now.count 0 (sym c.is_empty.ensures ∙ c.if-is_empty.false) in
    let first = c.in_err-last.field-0.0 in
    rw (p.1, p.2) (over_last c.args.size text c.args.work.now c.args.held.now c.args.n c.args.stage a e c.complete_last.new.work (Err first) (c.args.n + 1) (c.in_err-last.ensures.by_index (begun_after [] text) a.kept) refl (Err first) (fault_ends c.args.size first c.complete_last.new.work (c.args.n + 1)))

pub returns-clause-by_index : goal.returns-clause-by_index
returns-clause-by_index c = λ text a h.
    let e = eqb-false c.args.held.now.count 0 (sym c.is_empty.ensures ∙ c.if-is_empty.false) in
    let f = number_fits c.args.size a h in
    let m : c.saturating_add.result ≡ c.args.n + 1 = omega (arith, c.saturating_add.ensures) in
    over_last c.args.size text c.args.work.now c.args.held.now c.args.n c.args.stage a e c.complete_last.new.work (Ok c.in_ok-last.last) c.saturating_add.result (c.in_ok-last.ensures.by_index (begun_after [] text) a.kept) m c.conclude-2.result (c.conclude-2.ensures c.args.size c.complete_last.new.work)
