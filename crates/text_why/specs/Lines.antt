-- What the program why writes for a step: its number, PC before it, and which of the six holds. Sentences in quotation marks are of docs/PROGRAMS.md.
use Rattle.std.specs.Prelude.{ℕ, List, [], ◌∷◌, ◌++◌, eqb}
use Rattle.laws.specs.Choice.{pick}
use Rattle.device.specs.declared.Device.{Device}
use Rattle.ports.specs.declared.Mode.{Mode}
use Rattle.record.specs.declared.Core.{Core}
use Rattle.step_why.specs.declared.Reason.{Reason}
use Rattle.step_why.specs.declared.Taken.{Taken}
use Rattle.text.specs.Digits.{characters, joined, hex, decimal}
use Rattle.notation.specs.Names.{source_name, names_of}

-- "sleeping; holding": a running record does not wait
abbrev pub waiting_text : Mode → List ℕ
waiting_text Mode.Running = characters "sleeping"
waiting_text Mode.Sleep = characters "sleeping"
waiting_text Mode.Hold = characters "holding"

-- "accepted TRGA; accepted TRGA waiting TBI INT1"
abbrev pub accepted_text : Device → Taken → List ℕ
accepted_text d t =
    characters "accepted " ++ (source_name d t.source ++ pick (eqb t.waiting 0) [] (characters " waiting" ++ names_of d t.waiting))

-- "sleeping; holding; EI clear; nothing latched; masked TRGA TBI; stack level TRGA TBI; accepted .."
abbrev pub reason_text : Device → Mode → Reason → List ℕ
reason_text d mode Reason.Waiting = waiting_text mode
reason_text d mode Reason.Disabled = characters "EI clear"
reason_text d mode Reason.Nothing = characters "nothing latched"
reason_text d mode (Reason.Masked latched) = characters "masked" ++ names_of d latched
reason_text d mode (Reason.Level due) = characters "stack level" ++ names_of d due
reason_text d mode (Reason.Accepted t) = accepted_text d t

-- "the step's number, PC before the step in four digits, and one of": m is the record before the step
abbrev pub opening_text : ℕ → ℕ → List ℕ
opening_text step pc = joined (decimal step ∷ characters " " ∷ hex 4 pc ∷ characters " " ∷ [])

unfoldable pub why_line : Device → ℕ → Core → Reason → List ℕ
why_line d step m reason = opening_text step m.pc ++ (reason_text d m.mode reason ++ characters "\n")
