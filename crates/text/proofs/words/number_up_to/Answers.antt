-- `text::words::number_up_to` meets its contract.
use native.Mathlib.Omega.{arith}
use Rattle.text.proofs.words.Values.{digit_is, parsed-more}
use Rattle.text.proofs.words.number_up_to.Goals as goal

pub loop-c-preserved : goal.loop-c-preserved
loop-c-preserved c =
    let d = digit_is _ _ _ c.in_ok-digit_to.ensures in
    rw (c.min-value.ensures, d.1) (parsed-more c.loop-c.invariant c.requires.0 (omega arith) d.0)
