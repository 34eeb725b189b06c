-- Request Q-14, the clock account: "For the certificate we want one statement about long runs." One statement for both devices, one for both timers.
use Rattle.std.specs.Prelude.{ℕ, zero, suc, ◌+◌, ◌-◌, ◌*◌, ◌/◌, ◌%◌, ◌^◌, ◌≤◌, Bool, true, false, List, [], ◌∷◌, ◌≡◌, take, Ok}
use Rattle.bits.specs.Bits.{bit_of}
use Rattle.device.specs.Device.{rom_of}
use Rattle.device.specs.declared.Options.{Options}
use Rattle.sheet.specs.Operation.{Place, Pointer, Operation}
use Rattle.sheet.specs.Reading.{read_at}
use Rattle.sheet.specs.Table.{line_at}
use Rattle.sheet.specs.declared.Insn.{Insn}
use Rattle.frame.specs.Frame.{frames_of}
use Rattle.frame.specs.declared.Pins.{Pins}
use Rattle.clock.specs.Clock.{is_multiple, timer_exponent}
use Rattle.ports.specs.declared.Ports.{Ports}
use Rattle.ports.specs.declared.Mode.TheVariants.{Running}
use Rattle.record.specs.Valid.{ValidTimers}
use Rattle.record.specs.declared.Timers.{Timers}
use Rattle.record.specs.declared.Machine.{Machine}
use Rattle.row.specs.Columns.{work_puts}
use Rattle.step_act.specs.Act.{source_of, shown}
use Rattle.step.specs.Step.{look_step}
use Rattle.run.specs.Run.{RunPaper}
use Rattle.run.specs.Answers.{RunOf}
use Rattle.account.specs.Sequence.{StepInput, step_by, record_after, cycles_spent, EachStep, KeepsMode}

-- "In any sequence of steps in which sleep and hold are not entered or left and no reset comes, the time base at the end is its start plus eight times the cycles spent, modulo 2^22."
abbrev pub ClockAccount : Type 0
ClockAccount =
    (m : Machine) (gs : List StepInput) → ValidTimers m.core.timers → EachStep KeepsMode m gs
    → (record_after m gs).core.timers.base ≡ (m.core.timers.base + 8 * cycles_spent m gs) % 2 ^ 22

pub data Timer : Type 0 where
  TA TB : Timer

abbrev pub count_of : Timer → Timers → ℕ
count_of TA t = t.ta
count_of TB t = t.tb

-- the port that sets a timer's mode and rate: "(P28, P29 bits 1..0 = 0 to 3) .. Bits 3..2 are the mode"
abbrev pub setting_of : Timer → Ports → ℕ
setting_of TA p = p.p28
setting_of TB p = p.p29

-- a place of the operation column that is a part of the timer
abbrev pub is_part_of : Timer → Place → Bool
is_part_of TA (Place.pointer (Pointer.ta p)) = true
is_part_of TA (Place.pointer (Pointer.tb p)) = false
is_part_of TB (Place.pointer (Pointer.ta p)) = false
is_part_of TB (Place.pointer (Pointer.tb p)) = true
is_part_of t (Place.pointer Pointer.sp) = false
is_part_of t (Place.pointer (Pointer.dp p)) = false
is_part_of t (Place.register r) = false
is_part_of t (Place.given g) = false
is_part_of t (Place.cell c) = false
is_part_of t (Place.port p) = false
is_part_of t (Place.rom h) = false
is_part_of t Place.mask = false

-- whether an instruction writes the timer
abbrev pub writes_timer : Timer → Operation → Bool
writes_timer t (Operation.work s a) = work_puts (is_part_of t) s a
writes_timer t (Operation.branch b) = false
writes_timer t (Operation.call e) = false
writes_timer t Operation.return = false
writes_timer t Operation.return_flag = false
writes_timer t (Operation.IL⟵IL-and-r e) = false
writes_timer t Operation.no_operation = false

-- the step executes an instruction: it runs, accepts no interrupt once it has seen the frame, and does not stop. A step that stops writes nothing, a store to the timer with P9.3 set among them (31)
pub record Executes (m : Machine) (g : StepInput) (i : Insn) : Type 0 where
  pub running : m.core.mode ≡ Running
  pub accepts_nothing : source_of (look_step g.options m g.pins).machine.core ≡ 6
  pub read : read_at (shown g.rom m) m.core.pc ≡ Ok i
  pub completes : (step_by m g).stop ≡ 0

-- "a timer stays in mode 2 at one rate": its port has this setting before the step and after it. "no instruction writes it"
pub record CountsOn (t : Timer) (setting : ℕ) (m : Machine) (g : StepInput) : Type 0 where
  pub keeps_mode : KeepsMode m g
  pub before : setting_of t m.core.ports ≡ setting
  pub after : setting_of t (step_by m g).machine.core.ports ≡ setting
  pub writes_none : (i : Insn) → Executes m g i → writes_timer t (line_at i.row).operation ≡ false

-- "the multiples of its period met", counted: of n cycles, each of which gives the time base 8 more, those that end at a multiple of 2^e
abbrev pub multiples_met : ℕ → ℕ → ℕ → ℕ
multiples_met e base zero = 0
multiples_met e base (suc n) = bit_of (is_multiple e ((base + 8) % 2 ^ 22)) + multiples_met e ((base + 8) % 2 ^ 22) n

-- the exponent of a timer's period by its setting
abbrev pub period_of : ℕ → ℕ
period_of setting = timer_exponent (setting % 4)

-- "If moreover a timer stays in mode 2 at one rate and no instruction writes it, its count has grown, modulo 4096, by the multiples of its period met."
abbrev pub TimerAccount : Type 0
TimerAccount =
    (t : Timer) (setting : ℕ) → setting / 4 ≡ 2 → (m : Machine) (gs : List StepInput) → ValidTimers m.core.timers → EachStep (CountsOn t setting) m gs
    → count_of t (record_after m gs).core.timers
    ≡ (count_of t m.core.timers + multiples_met (period_of setting) m.core.timers.base (cycles_spent m gs)) % 4096

-- the same number as a difference of quotients, for a period of 2^10, 2^14, 2^18 or 2^22, or any other from 8 to 2^22
abbrev pub MetByQuotients : Type 0
MetByQuotients =
    (e base n : ℕ) → 3 ≤ e → e ≤ 22 → base % 8 ≡ 0
    → multiples_met e base n ≡ (base + 8 * n) / 2 ^ e - base / 2 ^ e

-- a step for each frame, of one image and with the same options
abbrev pub inputs_of : List ℕ → Options → List Pins → List StepInput
inputs_of image o [] = []
inputs_of image o (pins ∷ others) = record { rom = rom_of image; options = o; pins = pins } ∷ inputs_of image o others

-- the steps that a run made by its answer: those completed, and the one that stopped, where one did
abbrev pub steps_made : List ℕ → Options → List ℕ → RunPaper → List StepInput
steps_made image o frames r = inputs_of image o (take (suc r.steps) (frames_of o.device frames))

-- both accounts of what the call run answers, by the cycles and the record of any answer that conforms
abbrev pub ClockAccountOfRun : Type 0
ClockAccountOfRun =
    (image : List ℕ) (o : Options) (m : Machine) (frames : List ℕ) (r : RunPaper) → RunOf image o m frames r
    → ValidTimers m.core.timers → EachStep KeepsMode m (steps_made image o frames r)
    → r.machine.core.timers.base ≡ (m.core.timers.base + 8 * r.cycles) % 2 ^ 22

abbrev pub TimerAccountOfRun : Type 0
TimerAccountOfRun =
    (t : Timer) (setting : ℕ) → setting / 4 ≡ 2
    → (image : List ℕ) (o : Options) (m : Machine) (frames : List ℕ) (r : RunPaper) → RunOf image o m frames r
    → ValidTimers m.core.timers → EachStep (CountsOn t setting) m (steps_made image o frames r)
    → count_of t r.machine.core.timers
    ≡ (count_of t m.core.timers + multiples_met (period_of setting) m.core.timers.base r.cycles) % 4096
