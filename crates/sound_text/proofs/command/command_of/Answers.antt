-- `sound_text::command::command_of` meets its contract.
use mathlib.Core.Path.{◌≡◌, refl}
use mathlib.Core.Bool.{false}
use Rattle.laws.specs.Choice.{both}
use Rattle.laws.proofs.Choices.{both_false}
use Rattle.sound_text.proofs.command.Entering.{bare-command, numbered-command, no-command}
use Rattle.sound_text.proofs.command.command_of.Goals as goal
use Rattle.sound_text.proofs.command.command_of.Goals.{else-e-via-then-e+else-e-2, else-e-via-else-e}

pub returns-then-not-e : goal.returns-then-not-e
returns-then-not-e c = bare-command c.if-not-e.true c.bare.ensures

pub returns-then-e-2 : goal.returns-then-e-2
returns-then-e-2 c = numbered-command c.if-not-e.false (rw (c.if-e.true, c.if-e-2.true)) c.numbered.ensures

pub returns : goal.returns
returns c =
    let e = c.args.e in
    let none : both e.some e.digits ≡ false = elim c.else-e.branch [ else-e-via-then-e+else-e-2 w ↦ rw (w.if-e-2.false, both_false e.some) | else-e-via-else-e w ↦ rw w.if-e.false ] in
    no-command c.if-not-e.false none refl
