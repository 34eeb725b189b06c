-- Advancing keeps the ranges; advancing by a and then by b is advancing by a + b, refusals included; and each call has one answer.
use Prim.Native.Nat.{ℕ, zero, suc, ◌+◌, ◌<◌, ◌≤◌}
use mathlib.Core.Path.{◌≡◌, refl, sym, ◌∙◌}
use mathlib.Core.Bool.{Bool, true, false}
use native.Mathlib.Omega.{arith}
use lib.Dec.{ltb}
use borrow.Author.Tests.{ltb-true, le-ltb}
use Rattle.laws.specs.Choice.{pick}
use Rattle.laws.proofs.Choices.{picked, picked_by}
use Rattle.laws.proofs.Computed.{T→true}
use Rattle.sound_generator.proofs.random.Period.{next_random}
use Rattle.sound_generator.specs.Sound.{in_ranges, InRanges}
use Rattle.std.specs.Prelude.{Ok, Err}
use Rattle.numbers.specs.declared.Refusal.TheVariants.{RecordOutsideTheRanges, PulsesOverTheLimit, TfOfZeroWhileOn}
use Rattle.sound_generator.specs.Answers.{Answer, number_of, state_after}
use Rattle.sound_generator.specs.declared.Sound.{Sound}
use Rattle.sound_generator.proofs.Ranges.{within, tested}
use Rattle.sound_generator.specs.Advance.{runs, counted, toggled, pulse, pulses, most_pulses, zero_while_on, advanced_by, AdvancingAdds}

-- what holds of the state, and after a pulse counted or a toggle, holds after a pulse
after_pulse : (P : Sound → Type 0) (s : Sound) → P s → (s.count < s.tf → P (counted s)) → P (toggled s) → P (pulse s)
unfolding pulse
after_pulse P s h c t =
    picked P (runs s) (pick (ltb s.count s.tf) (counted s) (toggled s)) s
    (picked_by P (ltb s.count s.tf) (counted s) (toggled s) (λ l. c (ltb-true s.count s.tf (T→true (ltb s.count s.tf) l))) t)
    h

pulse_in_ranges : (s : Sound) → InRanges s → InRanges (pulse s)
pulse_in_ranges s r =
    after_pulse InRanges s r
    (λ l. record { mode = r.mode; p24 = r.p24; count = omega arith; bits = r.bits })
    (record { mode = r.mode; p24 = r.p24; count = omega arith; bits = next_random s.bits r.bits })

pub pulses_in_ranges : (n : ℕ) (s : Sound) → InRanges s → InRanges (pulses n s)
unfolding pulses
pulses_in_ranges zero s r = r
pulses_in_ranges (suc n) s r = pulses_in_ranges n (pulse s) (pulse_in_ranges s r)

-- pulses change neither TF nor the mode, so they change nothing of 49
pub same_zero : (n : ℕ) (s : Sound) → zero_while_on (pulses n s) ≡ zero_while_on s
unfolding pulses
same_zero zero s = refl
same_zero (suc n) s = same_zero n (pulse s) ∙ after_pulse (λ t. zero_while_on t ≡ zero_while_on s) s refl (λ _. refl) refl

pub pulses_sum : (a b : ℕ) (s : Sound) → pulses (a + b) s ≡ pulses b (pulses a s)
unfolding pulses
pulses_sum zero b s = let e : 0 + b ≡ b = omega arith in rw e
pulses_sum (suc a) b s = let e : suc a + b ≡ suc (a + b) = omega arith in rw e (pulses_sum a b (pulse s))

module _ (n : ℕ) (s : Sound) where
  pub refuses-outside : in_ranges s ≡ false → advanced_by n s ≡ Err RecordOutsideTheRanges
  unfolding advanced_by
  refuses-outside e = rw e

  pub refuses-over : in_ranges s ≡ true → ltb most_pulses n ≡ true → advanced_by n s ≡ Err PulsesOverTheLimit
  unfolding advanced_by
  refuses-over e h = rw (e, h)

  pub refuses-zero : in_ranges s ≡ true → n ≤ most_pulses → zero_while_on s ≡ true → advanced_by n s ≡ Err TfOfZeroWhileOn
  unfolding advanced_by
  refuses-zero e h z = rw (e, le-ltb most_pulses n h, z)

  pub goes : in_ranges s ≡ true → n ≤ most_pulses → zero_while_on s ≡ false → advanced_by n s ≡ Ok (pulses n s)
  unfolding advanced_by
  goes e h z = rw (e, le-ltb most_pulses n h, z)

sum_by : (a b : ℕ) (s : Sound) (t z : Bool) → a + b ≤ most_pulses → in_ranges s ≡ t → zero_while_on s ≡ z → advanced_by b (state_after s (advanced_by a s)) ≡ advanced_by (a + b) s
sum_by a b s false z h e f = rw (refuses-outside a s e, refuses-outside b s e, refuses-outside (a + b) s e)
sum_by a b s true true h e f =
    rw (refuses-zero a s e (omega arith) f, refuses-zero b s e (omega arith) f, refuses-zero (a + b) s e h f)
sum_by a b s true false h e f =
    let kept = tested (pulses_in_ranges a s (within e)) in
    rw (goes a s e (omega arith) f, goes b (pulses a s) kept (omega arith) (same_zero a s ∙ f), goes (a + b) s e h f, pulses_sum a b s)

state_by : (a b : ℕ) (s : Sound) (t z : Bool) → a + b ≤ most_pulses → in_ranges s ≡ t → zero_while_on s ≡ z → state_after (state_after s (advanced_by a s)) (advanced_by b (state_after s (advanced_by a s))) ≡ state_after s (advanced_by (a + b) s)
state_by a b s false z h e f = rw (refuses-outside a s e, refuses-outside b s e, refuses-outside (a + b) s e)
state_by a b s true true h e f =
    rw (refuses-zero a s e (omega arith) f, refuses-zero b s e (omega arith) f, refuses-zero (a + b) s e h f)
state_by a b s true false h e f =
    let kept = tested (pulses_in_ranges a s (within e)) in
    rw (goes a s e (omega arith) f, goes b (pulses a s) kept (omega arith) (same_zero a s ∙ f), goes (a + b) s e h f, pulses_sum a b s)

-- the first of the two answers the same number as the whole
number_by_lem : (a b : ℕ) (s : Sound) (t z : Bool) → a + b ≤ most_pulses → in_ranges s ≡ t → zero_while_on s ≡ z → number_of (advanced_by a s) ≡ number_of (advanced_by (a + b) s)
number_by_lem a b s false z h e f = rw (refuses-outside a s e, refuses-outside (a + b) s e)
number_by_lem a b s true true h e f = rw (refuses-zero a s e (omega arith) f, refuses-zero (a + b) s e h f)
number_by_lem a b s true false h e f = rw (goes a s e (omega arith) f, goes (a + b) s e h f)

pub advancing_adds : AdvancingAdds
advancing_adds a b s h = record { same = sum_by a b s (in_ranges s) (zero_while_on s) h refl refl; state = state_by a b s (in_ranges s) (zero_while_on s) h refl refl; number = number_by_lem a b s (in_ranges s) (zero_while_on s) h refl refl }

-- any two answers to the same state and number of pulses are equal
pub one_answer : (n : ℕ) (s : Sound) {r q : Answer} → r ≡ advanced_by n s → q ≡ advanced_by n s → r ≡ q
one_answer n s f g = f ∙ sym g
