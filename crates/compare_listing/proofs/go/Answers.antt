-- `compare_listing::go` meets its contract.
use mathlib.Core.Path.{sym, ◌∙◌}
use native.Mathlib.Omega.{arith}
use lib.ListN.{length-drop}
use Rattle.laws.proofs.Computed.{true→T}
use Rattle.compare_listing.proofs.Going.{going-heeds, going_next, goes}
use Rattle.compare_listing.proofs.go.Goals as goal
use Rattle.compare_listing.proofs.go.Goals.{then-present-via-then-present, then-present-via-else-present+then-not-is_settled}

pub returns-then-present : goal.returns-then-present
returns-then-present c =
    let h = rw c.as_slice.ensures at c.heed-got.ensures in
    elim c.then-present.branch [
      | then-present-via-then-present w ↦ goes c.loop-present.invariant h (λ s e. absurd (true→T (sym e ∙ w.if-present.true)))
      | then-present-via-else-present+then-not-is_settled w ↦ goes c.loop-present.invariant h (λ s e. absurd (true→T (sym w.if-not-is_settled.true ∙ ((rw w.len.ensures.value at w.is_settled.ensures) ∙ s))))
    ]

pub returns-then-end-script : goal.returns-then-end-script
returns-then-end-script c =
    let h = rw c.as_slice.ensures at c.heed-got.ensures in
    goes c.loop-present.invariant h (λ s e. omega (arith, c.line_end-end.ensures.value, c.if-end-script.true, length-drop c.loop-present.read c.args.script.now))

pub loop-present-preserved : goal.loop-present-preserved
loop-present-preserved c =
    let h = rw c.as_slice.ensures at c.heed-got.ensures in
    going_next (going-heeds c.loop-present.invariant h) c.line_end-end.ensures.value (omega (arith, c.line_end-end.ensures.upper_bound, c.if-end-script.false)) c.next-present.ensures
