-- What the calls of include/em73862_sound.h answer, and leave in the state's bytes. A buffer that holds no state is refused with 2, and stays.
use Rattle.std.specs.Prelude.{ℕ, Bool, List, ◌≡◌, eqb, length, Result, Ok, Err}
use Rattle.laws.specs.Choice.{pick}
use Rattle.bits.specs.Bits.{bit_of}
use Rattle.numbers.specs.ComesBack.{record_outside_the_ranges}
use Rattle.sound_generator.specs.Sound.{start_state}
use Rattle.sound_generator.specs.Answers.{Answer, output_of}
use Rattle.sound_generator.specs.declared.Sound.{Sound}
use Rattle.numbers.specs.Numbered.{refusal_number}
use Rattle.numbers.specs.declared.Refusal.{Refusal}
use Rattle.numbers.specs.declared.Refusal.TheVariants.{RecordOutsideTheRanges}
use Rattle.sound_calls.specs.Layout.{state_bytes, bytes_of, holds_state, state_at}

-- a number, and the state's bytes
pub record Left : Type 0 where
  pub number : ℕ
  pub bytes : List ℕ

abbrev pub not_held : List ℕ → Left
not_held bytes = record { number = record_outside_the_ranges; bytes = bytes }

-- a refusal leaves the bytes
abbrev pub left_by : List ℕ → Answer → Left
left_by bytes (Ok after) = record { number = 0; bytes = bytes_of after }
left_by bytes (Err refusal) = record { number = refusal_number refusal; bytes = bytes }

-- a call that changes the state, by what it answers for a state
abbrev pub changed_by : (Sound → Answer) → List ℕ → Left
changed_by f bytes = pick (holds_state bytes) (left_by bytes (f (state_at bytes))) (not_held bytes)

-- em73862_sound_start: any contents are replaced, "nine ones at the start" and the rest of the start; a reset is the same
abbrev pub started : List ℕ → Left
started bytes = pick (eqb (length bytes) state_bytes) (record { number = 0; bytes = bytes_of start_state }) (not_held bytes)

pub record Leaves (l : Left) (number : ℕ) (bytes : List ℕ) : Type 0 where
  pub answer : number ≡ l.number
  pub left : bytes ≡ l.bytes

-- em73862_sound_output: the level is 1 for high, and 0 beside a refusal, as every number that comes back is 0 there
abbrev pub level_at : List ℕ → Result Bool Refusal
level_at bytes = pick (holds_state bytes) (output_of (state_at bytes)) (Err RecordOutsideTheRanges)

abbrev pub number_of : Result Bool Refusal → ℕ
number_of (Ok high) = 0
number_of (Err refusal) = refusal_number refusal

abbrev pub level_of : Result Bool Refusal → ℕ
level_of (Ok high) = bit_of high
level_of (Err refusal) = 0

pub record Shows (l : Result Bool Refusal) (number level : ℕ) : Type 0 where
  pub answer : number ≡ number_of l
  pub shown : level ≡ level_of l
