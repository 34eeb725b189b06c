-- Document 01, "One step": what a cycle does to the time base, the timers TA and TB and the latches IL5 to IL0, bits 5 to 0 of il; and the event counts of phase 1.
use Rattle.std.specs.Prelude.{ℕ, zero, suc, ◌+◌, ◌/◌, ◌%◌, ◌^◌, ◌<◌, Bool, true, false, List, [], ◌∷◌, ◌≡◌, eqb, ltb}
use Rattle.laws.specs.Choice.{pick, both}
use Rattle.bits.specs.Bits.{has_bit, with_bit}
use Rattle.clock.specs.declared.Time.{Time}
use Rattle.clock.specs.declared.Rates.{Rates}

-- what stands under n in two lines of numbers; 0 where the first has no n
abbrev pub under : ℕ → List ℕ → List ℕ → ℕ
under n [] ks = 0
under n (m ∷ ms) [] = 0
under n (m ∷ ms) (k ∷ ks) = pick (eqb n m) k (under n ms ks)

abbrev pub is_multiple : ℕ → ℕ → Bool
is_multiple k base = eqb (base % 2 ^ k) 0

-- "At multiples of 2^10, 2^14, 2^18 or 2^22 (P28, P29 bits 1..0 = 0 to 3)"
unfoldable pub timer_exponent : ℕ → ℕ
timer_exponent bits = under bits (0 ∷ 1 ∷ 2 ∷ 3 ∷ []) (10 ∷ 14 ∷ 18 ∷ 22 ∷ [])

-- "a timer in mode 2 counts, and in mode 3 if its pin is 1. Bits 3..2 are the mode"
abbrev pub runs : ℕ → Bool → Bool
runs mode pin = pick (eqb mode 2) true (both (eqb mode 3) pin)

abbrev pub counts : ℕ → Bool → ℕ → Bool
counts setting pin base = both (runs (setting / 4) pin) (is_multiple (timer_exponent (setting % 4)) base)

-- "TBI sets IL1 at multiples of 2^k; P25 = 4,5,6,7,12,13,14,15 gives k = 10,11,12,13,9,8,15,17; 0 to 3 is off."
unfoldable pub tbi_exponent : ℕ → ℕ
tbi_exponent p25 = under p25 (4 ∷ 5 ∷ 6 ∷ 7 ∷ 12 ∷ 13 ∷ 14 ∷ 15 ∷ []) (10 ∷ 11 ∷ 12 ∷ 13 ∷ 9 ∷ 8 ∷ 15 ∷ 17 ∷ [])

abbrev pub tbi_sets : ℕ → ℕ → Bool
tbi_sets p25 base = both (ltb 0 (tbi_exponent p25)) (is_multiple (tbi_exponent p25) base)

-- a latch, by its weight in il, that is set where something happens
abbrev pub latched : Bool → ℕ → ℕ → ℕ
latched happens w il = pick happens (with_bit il w) il

-- "Passing 4095 to 0": whether a timer, counting or not, passes, and its count then
abbrev pub passes : Bool → ℕ → Bool
passes counting n = both counting (eqb n 4095)

abbrev pub counted : Bool → ℕ → ℕ
counted counting n = pick (passes counting n) 0 (pick counting (n + 1) n)

-- ".. sets IL3 (TA) or IL2 (TB)": each timer counts or not
abbrev pub count : Bool → Bool → Time → Time
count a b t =
    record {
      base = t.base;
      ta = counted a t.ta;
      tb = counted b t.tb;
      il = latched (passes b t.tb) 4 (latched (passes a t.ta) 8 t.il);
    }

-- "For each cycle the time base gains 8, modulo 2^22."
abbrev pub gained : Time → Time
gained t = record { base = (t.base + 8) % 2 ^ 22; ta = t.ta; tb = t.tb; il = t.il }

abbrev pub with_tbi : Bool → Time → Time
with_tbi sets t = record { base = t.base; ta = t.ta; tb = t.tb; il = latched sets 2 t.il }

-- what happens at a value of the time base: P8.3 is the pin of TA, P8.1 that of TB
unfoldable pub met : Rates → Time → Time
met r t =
    with_tbi (tbi_sets r.p25 t.base)
    (count (counts r.p28 r.p83 t.base) (counts r.p29 r.p81 t.base) t)

-- one cycle
unfoldable pub tick : Rates → Time → Time
tick r t = met r (gained t)

-- n cycles
unfoldable pub passed : ℕ → Rates → Time → Time
passed zero r t = t
passed (suc n) r t = passed n r (tick r t)

-- "A rising edge on P8.3 (P8.1) adds one to TA (TB) in event mode." Mode 1 is event.
unfoldable pub event_count : ℕ → ℕ → Bool → Bool → Time → Time
event_count p28 p29 roseA roseB t = count (both (eqb (p28 / 4) 1) roseA) (both (eqb (p29 / 4) 1) roseB) t

-- "DP, timers TA and TB: 0 to 4095", "Latches IL5 to IL0, IL4 always clear", "Time base: 22 bits, a multiple of 8"
pub record InRange (t : Time) : Type 0 where
  pub base : t.base < 2 ^ 22
  pub eights : t.base % 8 ≡ 0
  pub ta : t.ta < 4096
  pub tb : t.tb < 4096
  pub il : t.il < 64
  pub il4 : has_bit t.il 16 ≡ false
