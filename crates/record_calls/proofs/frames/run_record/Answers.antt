-- `record_calls::frames::run_record` meets its contract.
use mathlib.Core.Path.{◌∙◌}
use Rattle.record_calls.specs.Calls.{no_record, record_of}
use Rattle.record_calls.proofs.Answers.{ran}
use Rattle.record_calls.proofs.frames.run_record.Goals as goal
use Rattle.record_calls.proofs.frames.run_record.Goals.{in-Some, in-None}

pub returns : goal.returns
returns c =
    elim c.match-unpack.branch [
      | in-Some w ↦ record_of _ w.in-Some.ensures (ran w.options_of.ensures _ w.run-answer.ensures w.in-Some.ensures (rw w.answer-is at c.put_back.ensures))
      | in-None w ↦ let p = rw w.answer-is at c.put_back.ensures in no_record w.in-None.ensures (record { refusal = p.0 ∙ w.unheld.ensures; no_steps = p.1; no_cycles = p.2; kept = p.3 })
    ]
