-- The request of the sound pin: the state "advanced by a number of pulses of the basic frequency".
use Rattle.std.specs.Prelude.{ℕ, zero, suc, ◌+◌, ◌≤◌, Bool, not, ◌≡◌, eqb, ltb, Ok, Err}
use Rattle.laws.specs.Choice.{pick, both}
use Rattle.numbers.specs.declared.Refusal.TheVariants.{RecordOutsideTheRanges, PulsesOverTheLimit, TfOfZeroWhileOn}
use Rattle.sound_generator.specs.Random.{with_next}
use Rattle.sound_generator.specs.Sound.{disabled, in_ranges}
use Rattle.sound_generator.specs.Answers.{Answer, number_of, state_after}
use Rattle.sound_generator.specs.declared.Sound.{Sound}

-- "disabled or asleep nothing advances"
abbrev pub runs : Sound → Bool
runs s = both (not (eqb s.mode disabled)) (not s.asleep)

-- a pulse that is counted
abbrev pub counted : Sound → Sound
counted s = record { mode = s.mode; asleep = s.asleep; tf = s.tf; count = s.count + 1; tone = s.tone; bits = s.bits; p24 = s.p24 }

-- the tone toggles, the count is 0 again, and "one bit at each tone toggle"
abbrev pub toggled : Sound → Sound
toggled s = record { mode = s.mode; asleep = s.asleep; tf = s.tf; count = 0; tone = not s.tone; bits = with_next s.bits; p24 = s.p24 }

-- "A tone toggles after every TF + 1 pulses": the pulse after TF that were counted toggles it
unfoldable pub pulse : Sound → Sound
pulse s = pick (runs s) (pick (ltb s.count s.tf) (counted s) (toggled s)) s

-- n pulses
unfoldable pub pulses : ℕ → Sound → Sound
pulses zero s = s
pulses (suc n) s = pulses n (pulse s)

-- "up to 65,535 a call"
abbrev pub most_pulses : ℕ
most_pulses = 65535

abbrev pub zero_while_on : Sound → Bool
zero_while_on s = both (eqb s.tf 0) (not (eqb s.mode disabled))

-- the refusals in their order; else the state n pulses later
unfoldable pub advanced_by : ℕ → Sound → Answer
advanced_by n s =
    pick (not (in_ranges s)) (Err RecordOutsideTheRanges)
    (pick (ltb most_pulses n) (Err PulsesOverTheLimit)
    (pick (zero_while_on s) (Err TfOfZeroWhileOn) (Ok (pulses n s))))

-- "advancing by a and then b equals advancing by a + b when the sum is within the limit": of every state, refusals included; and the first of the two answers the number of the whole
pub record Adds (a b : ℕ) (s : Sound) : Type 0 where
  pub same : advanced_by b (state_after s (advanced_by a s)) ≡ advanced_by (a + b) s
  pub state : state_after (state_after s (advanced_by a s)) (advanced_by b (state_after s (advanced_by a s))) ≡ state_after s (advanced_by (a + b) s)
  pub number : number_of (advanced_by a s) ≡ number_of (advanced_by (a + b) s)

abbrev pub AdvancingAdds : Type 0
AdvancingAdds = (a b : ℕ) (s : Sound) → a + b ≤ most_pulses → Adds a b s
