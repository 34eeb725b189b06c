-- `routines_bound::judge_calls` meets its contract.
use Rattle.routines_bound.proofs.Calls.{plain-calls, chosen-calls}
use Rattle.routines_bound.proofs.Parts.{no_call-part}
use native.Mathlib.Omega.{arith}
use Rattle.routines_bound.proofs.judge_calls.Goals as goal

pub returns-then-not-has_call : goal.returns-then-not-has_call
returns-then-not-has_call c = plain-calls _ _ c.requires.words (no_call-part _ _ (omega (arith, c.requires.words.laid.words, c.requires.words.laid.few)) (c.has_call.ensures c.if-not-has_call.true))

pub returns : goal.returns
returns c =
    let by = c.choose_calls.ensures in
    chosen-calls _ _ _ _ c.requires c.in_default.ensures by.len by.all by.idle by.chosen
