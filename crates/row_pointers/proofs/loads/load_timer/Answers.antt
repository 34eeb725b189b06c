-- `row_pointers::loads::load_timer` meets its contract.
use Rattle.std.proofs.Common.{rules, ◌≡◌, Err}
use Rattle.numbers.specs.declared.Stop.{Stop}
use Rattle.laws.proofs.Among.{at_each}
use Rattle.row_pointers.specs.Groups.{load_timer}
use Rattle.row_pointers.proofs.OtherBank.{Stops, load-timer-stops}
use Rattle.row_pointers.proofs.loads.load_timer.Goals as goal

pub returns-in_err-in_bank_0 : goal.returns-in_err-in_bank_0
returns-in_err-in_bank_0 c =
    let stop : c.from_residual.result ≡ Err Stop.AbsentRamAddress = search rules in
    rw stop (at_each (Stops _) load_timer (load-timer-stops _ c.in_err-in_bank_0.ensures.1) _ c.requires.listed)
