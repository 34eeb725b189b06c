-- `record_calls::why::why_numbers` meets its contract.
use Rattle.record_calls.proofs.why.Handing.{asked, unasked}
use Rattle.record_calls.proofs.why.why_numbers.Goals as goal
use Rattle.record_calls.proofs.why.why_numbers.Goals.{in-Some, in-None}

pub returns : goal.returns
returns c =
    elim c.match-unpack.branch [
      | in-Some w ↦ asked _ w.in-Some.ensures w.options_of.ensures w.why-answer.ensures (rw w.answer-is at c.from.ensures)
      | in-None w ↦ unasked _ w.in-None.ensures w.unheld.ensures (rw w.answer-is at c.from.ensures)
    ]
