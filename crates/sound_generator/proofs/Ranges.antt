-- The test of the ranges decides them.
use Prim.Native.Nat.{ℕ, ◌<◌, ◌≤◌}
use mathlib.Core.Path.{◌≡◌, sym, ◌∙◌}
use mathlib.Core.Bool.{Bool, true}
use native.Mathlib.Omega.{arith}
use lib.Dec.{T, leb, ltb, leb→le, le→leb}
use borrow.Author.Tests.{ltb-true}
use Rattle.laws.specs.Decides.{Decides}
use Rattle.laws.proofs.Decided.{Decision, less, ◌and◌, restated}
use Rattle.laws.proofs.Computed.{true→T, T→true, both_left, both_right}
use Rattle.sound_generator.specs.Sound.{nibbles, in_ranges, InRanges}
use Rattle.sound_generator.specs.Answers.{takes}
use Rattle.sound_generator.specs.declared.Sound.{Sound}

abbrev at_most : (n k : ℕ) → Decision (n ≤ k)
at_most n k = record { test = leb n k; decides = record { sound = leb→le n k; complete = le→leb n k } }

pub ranges : (s : Sound) → Decides (in_ranges s) (InRanges s)
unfolding in_ranges
ranges s =
    (restated {Q = InRanges s}
    (λ f. record { mode = f.0.0; p24 = f.0.1; count = f.1.0; bits = record { nine = f.1.1.1; some = λ e. omega arith } })
    (λ r. ((r.mode, r.p24), (r.count, (let n = r.bits.some in omega arith, r.bits.nine))))
    ((less s.mode 4 and less s.p24 16) and at_most s.count s.tf and less 0 s.bits and less s.bits 512)).decides

pub within : {s : Sound} → in_ranges s ≡ true → InRanges s
within {s} e = (ranges s).sound (true→T e)

pub tested : {s : Sound} → InRanges s → in_ranges s ≡ true
tested {s} r = T→true (in_ranges s) ((ranges s).complete r)

-- what is known where a write is taken
pub took : {t : Bool} (s : Sound) (n : ℕ) → t ≡ takes s n → t ≡ true → InRanges s × (n < nibbles)
took s n e h =
    let taken : T (takes s n) = true→T (sym e ∙ h) in
    ((ranges s).sound (both_left (in_ranges s) (ltb n nibbles) taken), ltb-true n nibbles (T→true (ltb n nibbles) (both_right (in_ranges s) (ltb n nibbles) taken)))
