-- `record_calls::look_record` meets its contract.
use Rattle.record_calls.specs.Calls.{no_record, record_of}
use Rattle.record_calls.proofs.Answers.{looked}
use Rattle.record_calls.proofs.look_record.Goals as goal
use Rattle.record_calls.proofs.look_record.Goals.{in-Some, in-None}

pub returns : goal.returns
returns c =
    elim c.match-unpack.branch [
      | in-Some w ↦ record_of _ w.in-Some.ensures (looked _ w.options_of.ensures w.look-answer.ensures w.in-Some.ensures (rw w.answer-is at c.put_back.ensures))
      | in-None w ↦ let p = rw w.answer-is at c.put_back.ensures in no_record w.in-None.ensures (record { refused = p.0; none = p.1; kept = p.2 })
    ]
