-- `record_calls::show_record` meets its contract.
use mathlib.Core.Path.{refl}
use Rattle.std.specs.Prelude.{Ok, Err}
use Rattle.record_calls.specs.Calls.{record_of}
use Rattle.record_calls.proofs.show_record.Goals as goal

pub returns-in-Ok : goal.returns-in-Ok
returns-in-Ok c = record_of _ c.in-Some.ensures (record { r = Ok c.in-Ok.field-0; shows = c.in-Ok.ensures; refusal = refl })

pub returns-in-Err : goal.returns-in-Err
returns-in-Err c = record_of _ c.in-Some.ensures (record { r = Err c.in-Err.refusal; shows = c.in-Err.ensures; refusal = c.from-in-Err.ensures })
