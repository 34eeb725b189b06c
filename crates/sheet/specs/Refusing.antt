-- The refusal of the reader, and the stop in a step, where no row is read.
use Rattle.numbers.specs.declared.Refusal.{Refusal}
use Rattle.numbers.specs.declared.Stop.{Stop}
use Rattle.sheet.specs.declared.NoRow.{NoRow}

abbrev pub refusal_of : NoRow → Refusal
refusal_of NoRow.Unassigned = Refusal.UnassignedCode
refusal_of NoRow.PastEnd = Refusal.PastEnd

abbrev pub stop_of : NoRow → Stop
stop_of NoRow.Unassigned = Stop.UnassignedCode
stop_of NoRow.PastEnd = Stop.PastEnd
