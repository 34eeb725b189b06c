-- What each call on the sound pin's state answers: the state after it, or a refusal, which leaves the state as it was.
use Rattle.std.specs.Prelude.{ℕ, Bool, true, false, ltb, Result, Ok, Err}
use Rattle.laws.specs.Choice.{pick, both}
use Rattle.numbers.specs.Numbered.{refusal_number}
use Rattle.numbers.specs.declared.Refusal.{Refusal}
use Rattle.numbers.specs.declared.Refusal.TheVariants.{RecordOutsideTheRanges}
use Rattle.sound_generator.specs.Sound.{nibbles, in_ranges, level_of, with_p30, with_p24, with_p23, with_sleep}
use Rattle.sound_generator.specs.declared.Sound.{Sound}

abbrev pub Answer : Type 0
Answer = Result Sound Refusal

-- the number that document 01 gives it; nothing is refused with 0
abbrev pub number_of : Answer → ℕ
number_of (Ok after) = 0
number_of (Err refusal) = refusal_number refusal

-- the state that is left, where s was the state before
abbrev pub state_after : Sound → Answer → Sound
state_after s (Ok after) = after
state_after s (Err refusal) = s

-- a write's value has four bits: "ACC, HR, LR, SP, mask, port latches: 0 to 15"
abbrev pub takes : Sound → ℕ → Bool
takes s n = both (in_ranges s) (ltb n nibbles)

-- what comes of a change, or the refusal 2
abbrev pub changed : Bool → Sound → Answer
changed taken after = pick taken (Ok after) (Err RecordOutsideTheRanges)

unfoldable pub p30_written : Sound → ℕ → Answer
p30_written s n = changed (takes s n) (with_p30 n s)

unfoldable pub p24_written : Sound → ℕ → Answer
p24_written s n = changed (takes s n) (with_p24 n s)

unfoldable pub p23_written : Sound → ℕ → Answer
p23_written s n = changed (takes s n) (with_p23 n s)

unfoldable pub made_sleep : Sound → Answer
made_sleep s = changed (in_ranges s) (with_sleep true s)

unfoldable pub made_wake : Sound → Answer
made_wake s = changed (in_ranges s) (with_sleep false s)

-- the pin's level
unfoldable pub output_of : Sound → Result Bool Refusal
output_of s = pick (in_ranges s) (Ok (level_of s)) (Err RecordOutsideTheRanges)
