-- Many pulses at once are as many pulses: of count + n, every TF + 1 toggle the tone, and what is left is the count.
use Prim.Native.Nat.{ℕ, zero, suc, ◌+◌, ◌/◌, ◌%◌, ◌<◌, ◌≤◌}
use mathlib.Core.Path.{◌≡◌, refl, sym, ◌∙◌}
use mathlib.Core.Bool.{Bool, true, false, not}
use native.Mathlib.Nat.{mod-eq_of_lt, div-eq_of_lt, add-div_left, add-mod_left}
use native.Mathlib.Numerals.{add-one}
use native.Mathlib.Decide.{dec_lt}
use native.Mathlib.Omega.{arith}
use lib.Dec.{eqb, ltb}
use borrow.Author.Tests.{lt-ltb, le-ltb}
use Rattle.laws.specs.Choice.{pick}
use Rattle.sound_generator.specs.Random.{after}
use Rattle.sound_generator.specs.declared.Sound.{Sound}
use Rattle.sound_generator.specs.Advance.{runs, counted, toggled, pulse, pulses}
use Rattle.sound_generator.specs.Jump.{flipped}

abbrev pub jumped : ℕ → Sound → Sound
jumped n s = record {
  mode = s.mode;
  asleep = s.asleep;
  tf = s.tf;
  count = (s.count + n) % (s.tf + 1);
  tone = flipped ((s.count + n) / (s.tf + 1)) s.tone;
  bits = after ((s.count + n) / (s.tf + 1)) s.bits;
  p24 = s.p24;
}

one_pulse : (s : Sound) → runs s ≡ true → pulse s ≡ pick (ltb s.count s.tf) (counted s) (toggled s)
unfolding pulse
one_pulse s r = rw r

no_jump : (s : Sound) → s.count ≤ s.tf → jumped 0 s ≡ s
unfolding flipped after
no_jump s h =
    let e : s.count + 0 ≡ s.count = omega arith in
    let l : s.count < s.tf + 1 = omega arith in
    rw (e, mod-eq_of_lt l, div-eq_of_lt l)

counts_on : (n : ℕ) (s : Sound) → jumped n (counted s) ≡ jumped (suc n) s
counts_on n s = let e : s.count + 1 + n ≡ s.count + suc n = omega arith in rw e

toggles_once : (n : ℕ) (s : Sound) → s.count ≡ s.tf → jumped n (toggled s) ≡ jumped (suc n) s
unfolding flipped after
toggles_once n s h =
    let e : s.count + suc n ≡ s.tf + 1 + n = omega arith in
    let z : (toggled s).count + n ≡ n = omega arith in
    rw (e, z, add-mod_left (s.tf + 1) n, add-div_left n {k = s.tf + 1} (omega arith), add-one (n / (s.tf + 1)))

jumps_on : (n : ℕ) (s : Sound) → ((t : Sound) → t.count ≤ t.tf → runs t ≡ true → pulses n t ≡ jumped n t) → s.count ≤ s.tf → runs s ≡ true → Dec (s.count < s.tf) → pulses n (pulse s) ≡ jumped (suc n) s
jumps_on n s f h r (yes l) = rw (one_pulse s r, lt-ltb s.count s.tf l) (f (counted s) (omega arith) r ∙ counts_on n s)
jumps_on n s f h r (no l) = rw (one_pulse s r, le-ltb s.count s.tf (omega arith)) (f (toggled s) (omega arith) r ∙ toggles_once n s (omega arith))

pub jumps : (n : ℕ) (s : Sound) → s.count ≤ s.tf → runs s ≡ true → pulses n s ≡ jumped n s
unfolding pulses
jumps zero s h r = sym (no_jump s h)
jumps (suc n) s h r = jumps_on n s (λ t g q. jumps n t g q) h r (dec_lt s.count s.tf)

-- "disabled or asleep nothing advances"
pub stands : (n : ℕ) (s : Sound) → runs s ≡ false → pulses n s ≡ s
unfolding pulses pulse
stands zero s r = refl
stands (suc n) s r = rw r (stands n s r)

-- two toggles give the tone back, so it is enough to know whether their number is odd
abbrev by_parity : ℕ → Bool → Bool
by_parity n tone = pick (eqb (n % 2) 1) (not tone) tone

not_not : (b : Bool) → not (not b) ≡ b
not_not true = refl
not_not false = refl

pub flipped_by_parity : (n : ℕ) (tone : Bool) → flipped n tone ≡ by_parity n tone
unfolding flipped
flipped_by_parity zero tone = refl
flipped_by_parity (suc zero) tone = refl
flipped_by_parity (suc (suc n)) tone =
    let e : suc (suc n) % 2 ≡ n % 2 = omega arith in rw (e, not_not tone) (flipped_by_parity n tone)
