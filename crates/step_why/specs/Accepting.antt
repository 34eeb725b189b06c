-- Request Q-7: what the answer says of the step. "The last holds exactly when the step accepts that source."
use Rattle.std.specs.Prelude.{ℕ, Some, ◌<◌, true, not, List, [], ◌∷◌, ◌≡◌, ltb, length}
use Rattle.laws.specs.Choice.{both}
use Rattle.bits.specs.Bits.{highest_bit}
use Rattle.numbers.specs.ComesBack.{Paper, answered, stack_level}
use Rattle.device.specs.Device.{image_size, rom_of}
use Rattle.device.specs.declared.Options.{Options}
use Rattle.frame.specs.Frame.{PinsInRange, frame_of}
use Rattle.frame.specs.declared.Pins.{Pins}
use Rattle.due.specs.Due.{due_source, latch_of_source}
use Rattle.record.specs.Stack.{can_push, CanPush, accepted}
use Rattle.record.specs.Valid.{Valid}
use Rattle.record.specs.declared.Machine.{Machine}
use Rattle.row.specs.Rows.{Done, spent, stops}
use Rattle.step_look.specs.Look.{is_running}
use Rattle.step_act.specs.Act.{source_of, run_one, after_time}
use Rattle.step.specs.Step.{look_step, unmarked, step_of}
use Rattle.step.specs.Answers.{StepPaper, stepped, StepOf}
use Rattle.step_why.specs.declared.Reason.{Reason}
use Rattle.step_why.specs.declared.Taken.{Taken}
use Rattle.step_why.specs.Why.{due_set, why_of}
use Rattle.step_why.specs.Answers.{WhyAnswer}

-- "If EI is set and a latch is set and allowed by its mask, accept the first of INT0, TRGA, TRGB, TBI, INT1", "lowers SP first, so SP must be 1 to 13": of a record that has seen the frame
pub record Accepts (m : Machine) (source : ℕ) : Type 0 where
  pub ei : m.core.ints.ei ≡ true
  pub first : due_source m.core.ints.il m.core.ints.mask ≡ source
  pub some : source < 6
  pub level : CanPush m.core

-- what the step does by the answer, m having seen the frame: it accepts the source; where the stack level refuses that it stops with 32; else one instruction runs
abbrev pub acted_by : (ℕ → ℕ → ℕ) → Options → Machine → Reason → Done
acted_by rom o m (Reason.Accepted t) = after_time (spent 2 (accepted m t.source))
acted_by rom o m (Reason.Level due) = stops stack_level m
acted_by rom o m (Reason.Masked latched) = after_time (run_one rom o m)
acted_by rom o m Reason.Nothing = after_time (run_one rom o m)
acted_by rom o m Reason.Disabled = after_time (run_one rom o m)
acted_by rom o m Reason.Waiting = spent 0 (unmarked m)

module _ (o : Options) (m : Machine) (pins : Pins) where
  -- the record after the first call of Q-4, which has seen the frame
  abbrev pub sighted : Machine
  sighted = (look_step o m pins).machine

  abbrev pub SaysAccepted : ℕ → Type 0
  SaysAccepted source = (waiting : ℕ) × (why_of o m.core pins ≡ Reason.Accepted (record { source = source; waiting = waiting }))

  -- by document 01's words
  abbrev pub AcceptsByRule : ℕ → Type 0
  AcceptsByRule source = (is_running m.core.mode ≡ true) × Accepts sighted source

  -- by the step's own definition: its second call acts (the test of `act_step`), it goes the way of an acceptance (that of `accept_or_run`) of this source, the stack level takes it (that of `accept_of`),
  -- and so the step is the acceptance with its two cycles
  pub record StepAccepts (rom : ℕ → ℕ → ℕ) (source : ℕ) : Type 0 where
    pub acts : both (is_running sighted.core.mode) (not sighted.core.mark) ≡ true
    pub is-source : source_of sighted.core ≡ source
    pub due : ltb (source_of sighted.core) 6 ≡ true
    pub level : can_push sighted.core ≡ true
    pub is-acceptance : step_of rom o m pins ≡ after_time (spent 2 (accepted sighted source))

  -- "exactly when", both ways; and a step accepts exactly where document 01's words say so
  pub record LastExactly (rom : ℕ → ℕ → ℕ) : Type 0 where
    pub only_then : (source : ℕ) → SaysAccepted source → StepAccepts rom source
    pub always_then : (source : ℕ) → StepAccepts rom source → SaysAccepted source
    pub in_words : (source : ℕ) → StepAccepts rom source → AcceptsByRule source
    pub by-words : (source : ℕ) → AcceptsByRule source → StepAccepts rom source

  -- a step is what its answer says
  pub record StepByAnswer (rom : ℕ → ℕ → ℕ) : Type 0 where
    pub acts : is_running m.core.mode ≡ true → step_of rom o m pins ≡ acted_by rom o sighted (why_of o m.core pins)
    pub waits : why_of o m.core pins ≡ Reason.Waiting → step_of rom o m pins ≡ spent (look_step o m pins).cycles (unmarked sighted)

  -- "Store it in the record: the source that would be accepted were EI set" (Q-11): after the first call it is the first of the due ones, which stand in the order of priority from the highest latch down, and so it is of those that the answer names
  pub record StoredIsFirst : Type 0 where
    pub of-all : latch_of_source sighted.core.ints.due ≡ highest_bit (due_set sighted.core.ints.il sighted.core.ints.mask)
    pub of-refused : (due : ℕ) → why_of o m.core pins ≡ Reason.Level due → latch_of_source sighted.core.ints.due ≡ highest_bit due
    pub of-accepted : (t : Taken) → why_of o m.core pins ≡ Reason.Accepted t → latch_of_source sighted.core.ints.due ≡ t.source

-- of any valid record and frame, on either device
pub record WhyTells (o : Options) (m : Machine) (pins : Pins) : Type 0 where
  pub last_exactly : (rom : ℕ → ℕ → ℕ) → LastExactly o m pins rom
  pub step_by_answer : (rom : ℕ → ℕ → ℕ) → StepByAnswer o m pins rom
  pub stored_is_first : StoredIsFirst o m pins

abbrev pub AnswerTellsStep : Type 0
AnswerTellsStep = (o : Options) (m : Machine) (pins : Pins) → Valid o.device m → PinsInRange o.device pins → WhyTells o m pins

-- the same of what the calls why and step answer, p and r: why answers "accepted, with the source" exactly where neither refuses and the step accepts that source, and then the step answers it
pub record AnswersTell (image : List ℕ) (o : Options) (m : Machine) (frame : List ℕ) (p : Paper) (r : StepPaper) : Type 0 where
  pub only_then : (source waiting : ℕ) → p ≡ answered (6 ∷ source ∷ waiting ∷ [])
      → (pins : Pins) × (frame_of o.device frame ≡ Some pins) × StepAccepts o m pins (rom_of image) source × (r ≡ stepped (after_time (spent 2 (accepted (sighted o m pins) source))))
  pub always_then : length image ≡ image_size o.device → Valid o.device m → (pins : Pins) → frame_of o.device frame ≡ Some pins → (source : ℕ) → StepAccepts o m pins (rom_of image) source
      → (waiting : ℕ) × (p ≡ answered (6 ∷ source ∷ waiting ∷ []))

-- of any answers that conform
abbrev pub CallsTellAlike : Type 0
CallsTellAlike = (image : List ℕ) (o : Options) (m : Machine) (frame : List ℕ) (p : Paper) (r : StepPaper) → WhyAnswer image o m frame p → StepOf image o m frame r → AnswersTell image o m frame p r
