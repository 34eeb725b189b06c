-- Document 01, "One step", as request Q-4 splits it: "one call takes the frame, updates edges, event counts and waking; a second accepts or executes and passes time."
use Rattle.std.specs.Prelude.{ℕ, ◌+◌, false, not}
use Rattle.laws.specs.Choice.{pick, both}
use Rattle.frame.specs.declared.Pins.{Pins}
use Rattle.record.specs.With.{assembled, core_with_mark}
use Rattle.record.specs.declared.Machine.{Machine}
use Rattle.row.specs.Rows.{Done, spent}
use Rattle.step_look.specs.Look.{is_running, looked}
use Rattle.step_act.specs.Act.{act_of}
use Rattle.device.specs.declared.Options.{Options}

-- the first call: "In sleep or hold the first call does the whole step and gives its cycles"
unfoldable pub look_step : Options → Machine → Pins → Done
look_step o m pins =
    let l = looked o m.core pins in
    spent l.cycles (assembled l.core m.ram)

abbrev pub unmarked : Machine → Machine
unmarked m = assembled (core_with_mark m.core false) m.ram

-- the second: where there is a mark it "does nothing, spends 0 and clears the mark". "In sleep or hold the second always does nothing and spends 0."
unfoldable pub act_step : (ℕ → ℕ → ℕ) → Options → Machine → Done
act_step rom o m = pick (both (is_running m.core.mode) (not m.core.mark)) (act_of rom o m) (spent 0 (unmarked m))

-- a step is both, one after the other. "A stop now leaves the record as the first call left it": the second call gives a stop with the record that it was given
unfoldable pub step_of : (ℕ → ℕ → ℕ) → Options → Machine → Pins → Done
step_of rom o m pins =
    let first = look_step o m pins in
    let second = act_step rom o first.machine in
    record { stop = second.stop; cycles = first.cycles + second.cycles; machine = second.machine }
