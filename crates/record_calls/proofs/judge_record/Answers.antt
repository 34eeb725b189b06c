-- `record_calls::judge_record` meets its contract.
use mathlib.Core.Path.{refl}
use Rattle.laws.proofs.Computed.{true→T}
use Rattle.record_calls.specs.Calls.{no_record, record_of}
use Rattle.record_calls.proofs.judge_record.Goals as goal
use Rattle.record_calls.proofs.judge_record.Goals.{in_default-via-in-Some+else-is_valid, in_default-via-in_default}

pub returns-in-Some : goal.returns-in-Some
returns-in-Some c = record_of _ c.in-Some.ensures (record { inside = λ _. refl; outside = λ n. absurd (n (c.is_valid.ensures.sound (true→T c.if-is_valid.true))) })

pub returns-in_default : goal.returns-in_default
returns-in_default c =
    elim c.in_default.branch [
      | in_default-via-in-Some+else-is_valid w ↦ record_of _ w.in-Some.ensures (record { inside = λ v. absurd (rw w.if-is_valid.false at (w.is_valid.ensures.complete v)); outside = λ _. c.from.ensures })
      | in_default-via-in_default w ↦ no_record w.in_default.ensures c.from.ensures
    ]
