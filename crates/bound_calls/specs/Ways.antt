-- The ways by number, as the code's table of rows has them.
use Rattle.std.specs.Prelude.{◌≡◌, true, false, [], ◌∷◌, ℕ, ◌<◌, get_or}
use Rattle.device.specs.declared.Device.{Device}
use Rattle.sheet.specs.Operation.Target.{page, half, whole}
use Rattle.sheet.specs.Operation.Entry.{long, short}
use Rattle.sheet.specs.Table.{line_at}
use Rattle.sheet.specs.declared.Insn.{Insn}
use Rattle.bound_flow.specs.Flow.Way.{nowhere, end, onward, branches}
use Rattle.bound_calls.specs.CallFlow.{CallWay, call_way_of}
use Rattle.bound_calls.specs.CallFlow.CallWay.{as_before, back, into}

abbrev pub numbered : ℕ → CallWay
numbered n =
    get_or
    (as_before nowhere
    ∷ as_before end
    ∷ as_before (onward true)
    ∷ as_before (onward false)
    ∷ as_before (branches page)
    ∷ as_before (branches half)
    ∷ as_before (branches whole)
    ∷ into long
    ∷ into short
    ∷ back
    ∷ [])
    n back

-- the way after this instruction of the device has this number
pub record IsWay (d : Device) (i : Insn) (way : ℕ) : Type 0 where
  pub is : call_way_of d i (line_at i.row) ≡ numbered way
  pub few : way < 10
