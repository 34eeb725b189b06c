-- Any two answers of a call on the state to the same are equal: each is what one definition gives.
use Prim.Native.Nat.{ℕ}
use mathlib.Core.Path.{◌≡◌, refl, sym, ◌∙◌}
use mathlib.Core.Bool.{true}
use Rattle.sound_generator.specs.Sound.{start_state, level_of}
use Rattle.sound_generator.specs.Answers.{Answer, p30_written, p24_written, p23_written, made_sleep, made_wake, output_of}
use Rattle.sound_generator.specs.declared.Sound.{Sound}
use Rattle.std.specs.Prelude.{Bool, Result}
use Rattle.numbers.specs.declared.Refusal.{Refusal}

pub one : {A : Type 0} {x r q : A} → r ≡ x → q ≡ x → r ≡ q
one p q = p ∙ sym q

module _ (s : Sound) (n : ℕ) {r q : Answer} where
  pub one-p30 : r ≡ p30_written s n → q ≡ p30_written s n → r ≡ q
  one-p30 = one

  pub one-p24 : r ≡ p24_written s n → q ≡ p24_written s n → r ≡ q
  one-p24 = one

  pub one-p23 : r ≡ p23_written s n → q ≡ p23_written s n → r ≡ q
  one-p23 = one

module _ (s : Sound) {r q : Answer} where
  pub one-sleep : r ≡ made_sleep s → q ≡ made_sleep s → r ≡ q
  one-sleep = one

  pub one-wake : r ≡ made_wake s → q ≡ made_wake s → r ≡ q
  one-wake = one

pub one_output : (s : Sound) {r q : Result Bool Refusal} → r ≡ output_of s → q ≡ output_of s → r ≡ q
one_output s = one

pub one_start : {r q : Sound} → r ≡ start_state → q ≡ start_state → r ≡ q
one_start = one

-- "high when .. in .. reset"
pub reset_high : level_of start_state ≡ true
unfolding level_of start_state
reset_high = refl
