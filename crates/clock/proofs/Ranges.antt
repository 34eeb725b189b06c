-- What a cycle, some cycles and event counts keep: the ranges of the time base, the timers and the latches.
use mathlib.Core.Path.{◌≡◌, ◌∙◌}
use mathlib.Core.Bool.{Bool, true, false}
use Prim.Native.Nat.{ℕ, zero, suc, ◌+◌, ◌/◌, ◌%◌, ◌^◌, ◌<◌}
use native.Mathlib.Nat.{mod-lt}
use native.Mathlib.Decide.{ℕ_discrete}
use native.Mathlib.Omega.{arith}
use lib.Dec.{eqb, lit<}
use borrow.Author.Tests.{eq-eqb, ne_eqb}
use Rattle.laws.specs.Choice.{both}
use Rattle.bits.specs.Bits.{has_bit}
use Rattle.bits.proofs.Laws.{with_lt, with_other}
use Rattle.clock.specs.Clock.{latched, counted, passes, count, gained, with_tbi, counts, tbi_sets, met, tick, passed, event_count, InRange}
use Rattle.clock.specs.declared.Time.{Time}
use Rattle.clock.specs.declared.Rates.{Rates}

-- the latches: six, of which IL4 is clear
pub record Latches (il : ℕ) : Type 0 where
  pub six : il < 64
  pub il4 : has_bit il 16 ≡ false

pub latched_ok : (happens : Bool) (i il : ℕ) → i < 6 → (i ≡ 4 → ⊥) → Latches il → Latches (latched happens (2 ^ i) il)
latched_ok true i il h ne l =
    record {
      six = with_lt 6 i il h l.six;
      il4 = with_other il i 4 l.six h (lit< tt) ne ∙ l.il4;
    }
latched_ok false i il h ne l = l

counted? : (counting : Bool) (n : ℕ) → n < 4096 → Dec (n ≡ 4095) → counted counting n < 4096
counted? true n h (yes e) = rw (eq-eqb n 4095 e) (lit< tt)
counted? true n h (no ne) = rw (ne_eqb n 4095 ne) (omega arith)
counted? false n h d = h

counted_ok : (counting : Bool) (n : ℕ) → n < 4096 → counted counting n < 4096
counted_ok counting n h = counted? counting n h (ℕ_discrete n 4095)

pub latches : {t : Time} → InRange t → Latches t.il
latches i = record { six = i.il; il4 = i.il4 }

pub count_in_range : (a b : Bool) (t : Time) → InRange t → InRange (count a b t)
count_in_range a b t i =
    let la : Latches (latched (passes a t.ta) 8 t.il) = latched_ok (passes a t.ta) 3 t.il (lit< tt) (omega arith) (latches i) in
    let lb : Latches (count a b t).il = latched_ok (passes b t.tb) 2 (latched (passes a t.ta) 8 t.il) (lit< tt) (omega arith) la in
    record {
      base = i.base;
      eights = i.eights;
      ta = counted_ok a t.ta i.ta;
      tb = counted_ok b t.tb i.tb;
      il = lb.six;
      il4 = lb.il4;
    }

tbi_in_range : (sets : Bool) (t : Time) → InRange t → InRange (with_tbi sets t)
tbi_in_range sets t i =
    let l : Latches (latched sets 2 t.il) = latched_ok sets 1 t.il (lit< tt) (omega arith) (latches i) in
    record { base = i.base; eights = i.eights; ta = i.ta; tb = i.tb; il = l.six; il4 = l.il4 }

pub gained_in_range : (t : Time) → InRange t → InRange (gained t)
gained_in_range t i =
    record {
      base = mod-lt (t.base + 8) (lit< tt);
      eights = (let e : t.base % 8 ≡ 0 = i.eights in omega arith);
      ta = i.ta;
      tb = i.tb;
      il = i.il;
      il4 = i.il4;
    }

pub met_in_range : (r : Rates) (t : Time) → InRange t → InRange (met r t)
unfolding met
met_in_range r t i =
    let a : Bool = counts r.p28 r.p83 t.base in let b : Bool = counts r.p29 r.p81 t.base in
    tbi_in_range (tbi_sets r.p25 t.base) (count a b t) (count_in_range a b t i)

pub tick_in_range : (r : Rates) (t : Time) → InRange t → InRange (tick r t)
unfolding tick
tick_in_range r t i = met_in_range r (gained t) (gained_in_range t i)

pub passed_in_range : (n : ℕ) (r : Rates) (t : Time) → InRange t → InRange (passed n r t)
unfolding passed
passed_in_range zero r t i = i
passed_in_range (suc n) r t i = passed_in_range n r (tick r t) (tick_in_range r t i)

pub events_in_range : (p28 p29 : ℕ) (a b : Bool) (t : Time) → InRange t → InRange (event_count p28 p29 a b t)
unfolding event_count
events_in_range p28 p29 a b t i = count_in_range (both (eqb (p28 / 4) 1) a) (both (eqb (p29 / 4) 1) b) t i
