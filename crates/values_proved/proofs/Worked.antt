-- The worked values hold: one test over the list.
use mathlib.Core.Bool.{Bool, true}
use mathlib.Core.List.{List, [], ◌∷◌}
use lib.Dec.{T, eqb, eqb→eq}
use Rattle.laws.specs.Choice.{both}
use Rattle.laws.proofs.Computed.{both_left, both_right}
use Rattle.sheet.specs.Table.{lines, line_at}
use Rattle.sheet.specs.Reading.{row_number, row_with}
use Rattle.alu.specs.Making.{made}
use Rattle.alu.specs.Flags.{flag_after}
use Rattle.record.specs.Ram.{place_of}
use Rattle.record.specs.Stack.{called}
use Rattle.row.specs.Steps.{put_step}
use Rattle.row.specs.Rows.{work_of, call_of}
use Rattle.step_act.specs.Act.{run_one}
use Rattle.values_proved.specs.Values.{Claim, Hold, worked_values}

abbrev agree : List Claim → Bool
agree [] = true
agree (c ∷ cs) = both (eqb c.given c.said) (agree cs)

hold : (cs : List Claim) → T (agree cs) → Hold cs
hold [] t = tt
hold (c ∷ cs) t = (eqb→eq c.given c.said (both_left (eqb c.given c.said) (agree cs) t), hold cs (both_right (eqb c.given c.said) (agree cs) t))

pub worked : Hold worked_values
unfolding worked_values run_one row_number row_with lines line_at made flag_after place_of called put_step work_of call_of
worked = hold worked_values tt
