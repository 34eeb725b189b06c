-- What the calls on numbers and byte buffers answer, for either device: include/em73862.h and include/em73p982.h have their names, here without em73862_ or em73p982_. A primed name is what a call leaves where it was given the other.
use Rattle.std.specs.Prelude.{ℕ, not, List, Result, Ok, Err, ◌≡◌, eqb, length}
use Rattle.device.specs.declared.Device.{Device}
use Rattle.record_bytes.specs.Layout.{record_size}
use Rattle.device.specs.Device.{image_size}
use Rattle.laws.specs.Choice.{pick}
use Rattle.numbers.specs.ComesBack.{image_of_another_size, record_outside_the_ranges}
use Rattle.numbers.specs.Numbered.{refusal_number}
use Rattle.numbers.specs.declared.Refusal.{Refusal}
use Rattle.record.specs.Valid.{Valid}
use Rattle.record.specs.Start.{fresh_machine, ResetOf}
use Rattle.record.specs.declared.Machine.{Machine}
use Rattle.record_bytes.specs.Layout.{record_bytes, Holds, HoldsNone}
use Rattle.step.specs.Advance.{stop_or_0}
use Rattle.step.specs.Answers.{StepPaper, StepOf}
use Rattle.device.specs.declared.Options.{Options}
use Rattle.step.specs.declared.Stepped.{Stepped}
use Rattle.step.specs.Apart.{LookOf, ActOf}
use Rattle.run.specs.Answers.{RunOf}
use Rattle.run.specs.Run.{RunPaper}
use Rattle.run.specs.declared.Ran.{Ran}
use Rattle.display.specs.Display.{DisplayOf}

-- a buffer that holds a record is answered as that record, and one that holds none by a refusal
pub data Judged (bytes : List ℕ) (Refusal : Type 0) (Answer : Machine → Type 0) : Type 0 where
  no_record : HoldsNone bytes → Refusal → Judged bytes Refusal Answer
  record_of : (m : Machine) → Holds bytes m → Answer m → Judged bytes Refusal Answer

-- no record is 2, "record outside the ranges above"; where there is an image, 1 comes before it
abbrev pub unheld : Device → List ℕ → ℕ
unheld d image = pick (eqb (length image) (image_size d)) record_outside_the_ranges image_of_another_size

-- "Options: eight wake-enable bits (P0.0 to P0.3, P8.0 to P8.3) and SOUND enable": sound is enabled where it is not 0
abbrev pub options_of : Device → ℕ → ℕ → Options
options_of d wake sound = record { device = d; wake = wake; sound = not (eqb sound 0) }

-- the number of an answer that gives no other, 0 where it refuses nothing
abbrev pub number_of : {A : Type 0} → Result A Refusal → ℕ
number_of (Ok x) = 0
number_of (Err refusal) = refusal_number refusal

-- fresh: a buffer of another length is refused, whatever is in it
pub data FreshCall (d : Device) (bytes : List ℕ) (number : ℕ) (bytes' : List ℕ) : Type 0 where
  wrong_length : (length bytes ≡ record_size → ⊥) → number ≡ record_outside_the_ranges → bytes' ≡ bytes → FreshCall d bytes number bytes'
  fresh : length bytes ≡ record_size → number ≡ 0 → bytes' ≡ record_bytes (fresh_machine d) → FreshCall d bytes number bytes'

-- reset
pub record NotReset (bytes : List ℕ) (number : ℕ) (bytes' : List ℕ) : Type 0 where
  pub refusal : number ≡ record_outside_the_ranges
  pub kept : bytes' ≡ bytes

abbrev pub left_by_reset : Machine → Result Machine Refusal → Machine
left_by_reset m (Ok after) = after
left_by_reset m (Err refusal) = m

pub record ResetAnswer (d : Device) (m : Machine) (number : ℕ) (bytes' : List ℕ) : Type 0 where
  pub r : Result Machine Refusal
  pub resets : ResetOf d m r
  pub refusal : number ≡ number_of r
  pub left : bytes' ≡ record_bytes (left_by_reset m r)

abbrev pub ResetCall : Device → List ℕ → ℕ → List ℕ → Type 0
ResetCall d bytes number bytes' = Judged bytes (NotReset bytes number bytes') (λ m. ResetAnswer d m number bytes')

-- is_valid
pub record ValidAnswer (d : Device) (m : Machine) (number : ℕ) : Type 0 where
  pub inside : Valid d m → number ≡ 0
  pub outside : (Valid d m → ⊥) → number ≡ record_outside_the_ranges

abbrev pub ValidCall : Device → List ℕ → ℕ → Type 0
ValidCall d bytes number = Judged bytes (number ≡ record_outside_the_ranges) (λ m. ValidAnswer d m number)

-- a step, or one of its two calls, that is refused where the buffer holds no record; and one that answers as a promise says
pub record NotStepped (refusal : ℕ) (bytes : List ℕ) (number cycles : ℕ) (bytes' : List ℕ) : Type 0 where
  pub refused : number ≡ refusal
  pub none : cycles ≡ 0
  pub kept : bytes' ≡ bytes

pub record Answers (Promise : StepPaper → Type 0) (number cycles : ℕ) (bytes' : List ℕ) : Type 0 where
  pub r : StepPaper
  pub promised : Promise r
  pub answer : number ≡ r.number
  pub spent : cycles ≡ r.cycles
  pub left : bytes' ≡ record_bytes r.machine

-- what the code puts back of a step: its number and its cycles, and the record's bytes; a refusal leaves them as they were
abbrev pub PutBack : Result Stepped Refusal → List ℕ → ℕ → ℕ → List ℕ → Type 0
PutBack (Ok x) bytes number cycles bytes' = (number ≡ stop_or_0 x.stop) × (cycles ≡ x.cycles) × Holds bytes' x.machine
PutBack (Err refusal) bytes number cycles bytes' = (number ≡ refusal_number refusal) × (cycles ≡ 0) × (bytes' ≡ bytes)

-- step
abbrev pub StepCall : List ℕ → Options → List ℕ → List ℕ → ℕ → ℕ → List ℕ → Type 0
StepCall image o bytes frame number cycles bytes' =
    Judged bytes (NotStepped (unheld o.device image) bytes number cycles bytes') (λ m. Answers (StepOf image o m frame) number cycles bytes')

-- look, which has no image
abbrev pub LookCall : Options → List ℕ → List ℕ → ℕ → ℕ → List ℕ → Type 0
LookCall o bytes frame number cycles bytes' =
    Judged bytes (NotStepped record_outside_the_ranges bytes number cycles bytes') (λ m. Answers (LookOf o m frame) number cycles bytes')

-- act, which has no frame
abbrev pub ActCall : List ℕ → Options → List ℕ → ℕ → ℕ → List ℕ → Type 0
ActCall image o bytes number cycles bytes' =
    Judged bytes (NotStepped (unheld o.device image) bytes number cycles bytes') (λ m. Answers (ActOf image o m) number cycles bytes')

-- run
pub record NotRun (d : Device) (image bytes : List ℕ) (number steps cycles : ℕ) (bytes' : List ℕ) : Type 0 where
  pub refusal : number ≡ unheld d image
  pub no_steps : steps ≡ 0
  pub no_cycles : cycles ≡ 0
  pub kept : bytes' ≡ bytes

pub record RunAnswer (image : List ℕ) (o : Options) (frames : List ℕ) (m : Machine) (number steps cycles : ℕ) (bytes' : List ℕ) : Type 0 where
  pub r : RunPaper
  pub runs : RunOf image o m frames r
  pub answer : number ≡ r.number
  pub made : steps ≡ r.steps
  pub spent : cycles ≡ r.cycles
  pub left : bytes' ≡ record_bytes r.machine

-- what the code puts back of a run
abbrev pub RunPutBack : Result Ran Refusal → List ℕ → ℕ → ℕ → ℕ → List ℕ → Type 0
RunPutBack (Ok x) bytes number steps cycles bytes' = (number ≡ stop_or_0 x.stop) × (steps ≡ x.steps) × (cycles ≡ x.cycles) × Holds bytes' x.machine
RunPutBack (Err refusal) bytes number steps cycles bytes' = (number ≡ refusal_number refusal) × (steps ≡ 0) × (cycles ≡ 0) × (bytes' ≡ bytes)

abbrev pub RunCall : List ℕ → Options → List ℕ → List ℕ → ℕ → ℕ → ℕ → List ℕ → Type 0
RunCall image o bytes frames number steps cycles bytes' =
    Judged bytes (NotRun o.device image bytes number steps cycles bytes') (λ m. RunAnswer image o frames m number steps cycles bytes')

-- display
pub record NotShown (number : ℕ) (dots dots' : List ℕ) : Type 0 where
  pub refusal : number ≡ record_outside_the_ranges
  pub kept : dots' ≡ dots

pub record ShownAnswer (d : Device) (m : Machine) (dots : List ℕ) (number : ℕ) (dots' : List ℕ) : Type 0 where
  pub r : Result Unit Refusal
  pub shows : DisplayOf d m dots dots' r
  pub refusal : number ≡ number_of r

abbrev pub DisplayCall : Device → List ℕ → List ℕ → ℕ → List ℕ → Type 0
DisplayCall d bytes dots number dots' = Judged bytes (NotShown number dots dots') (λ m. ShownAnswer d m dots number dots')
