-- One step: what it makes of the time base and of a timer's count, by the cycles it spends.
use mathlib.Core.Path.{◌≡◌, refl, sym, subst, ap, ◌∙◌}
use mathlib.Core.Bool.{Bool, true, false}
use Prim.Native.Nat.{ℕ, zero, suc, ◌+◌, ◌*◌, ◌/◌, ◌%◌, ◌^◌, ◌<◌}
use native.Mathlib.Decide.{ℕ_discrete}
use native.Mathlib.Omega.{arith}
use lib.Dec.{T, eqb, ltb}
use borrow.Author.Tests.{eqb-true, eqb-false}
use Rattle.laws.specs.Choice.{pick}
use Rattle.laws.proofs.Choices.{picked}
use Rattle.bits.specs.Bits.{bit_of}
use Rattle.edges.specs.Edges.{wakes}
use Rattle.frame.specs.declared.Pins.{Pins}
use Rattle.clock.specs.Clock.{is_multiple, counts, counted, gained, met, tick, passed, event_count}
use Rattle.clock.specs.declared.Time.{Time}
use Rattle.clock.specs.declared.Rates.{Rates}
use Rattle.clock.proofs.Quiet.{passed_base}
use Rattle.due.specs.Due.{int0_due, trga_due, trgb_due, tbi_due, int1_due, due_source}
use Rattle.ports.specs.declared.Mode.{Mode}
use Rattle.ports.specs.declared.Ports.{Ports}
use Rattle.ports.specs.declared.Mode.TheVariants.{Running}
use Rattle.record.specs.declared.Core.{Core}
use Rattle.record.specs.declared.Machine.{Machine}
use Rattle.row.specs.Rows.{Done}
use Rattle.step_look.specs.Look.{time_of, is_running, edges_timed, edges_counted, releases_by_level, waited}
use Rattle.step_look.specs.declared.Looked.{Looked}
use Rattle.step_look.proofs.LookValid.{running_is}
use Rattle.step_act.specs.Act.{source_of, accept_or_run, rates_of, timed, core_in, core_after, after_time, act_of}
use Rattle.step.proofs.StepValid.{stop_leaves}
use Rattle.step.proofs.Stepping.{sighted, look-runs, step-runs, step_waits}
use Rattle.account.specs.Sequence.{StepInput, step_by, KeepsMode}
use Rattle.account.specs.Account.{Timer, count_of, setting_of, multiples_met, period_of, CountsOn}
use Rattle.account.proofs.Turns.{turn_base, turn_count}

-- a timer's count, setting and pin among those of the clock
abbrev count_in : Timer → Time → ℕ
count_in Timer.TA t = t.ta
count_in Timer.TB t = t.tb

abbrev setting_in : Timer → Rates → ℕ
setting_in Timer.TA r = r.p28
setting_in Timer.TB r = r.p29

abbrev pin_in : Timer → Rates → Bool
pin_in Timer.TA r = r.p83
pin_in Timer.TB r = r.p81

-- counting or not, modulo 4096
counted_by : (n : ℕ) (t : Bool) → eqb n 4095 ≡ t → n < 4096 → pick t 0 (n + 1) ≡ (n + 1) % 4096
counted_by n true e h = let l = eqb-true n 4095 e in omega (arith, l)
counted_by n false e h = let l = eqb-false n 4095 e in omega (arith, l)

counted_is : (c : Bool) (n : ℕ) → n < 4096 → counted c n ≡ (n + bit_of c) % 4096
counted_is true n h = counted_by n (eqb n 4095) refl h
counted_is false n h = omega arith

-- a cycle, by either timer
tick_count : (t : Timer) (r : Rates) (x : Time) → count_in t (tick r x) ≡ counted (counts (setting_in t r) (pin_in t r) (gained x).base) (count_in t x)
unfolding tick met
tick_count Timer.TA r x = refl
tick_count Timer.TB r x = refl

-- in mode 2 it counts at each multiple, whatever its pin
mode_2 : (s : ℕ) (pin : Bool) (base : ℕ) → s / 4 ≡ 2 → counts s pin base ≡ is_multiple (period_of s) base
mode_2 s pin base e = rw e

tick_base : (r : Rates) (x : Time) → (tick r x).base ≡ (x.base + 8) % 2 ^ 22
unfolding tick met
tick_base r x = refl

module _ (t : Timer) (s : ℕ) (two : s / 4 ≡ 2) where
  tick-by : (r : Rates) (x : Time) → setting_in t r ≡ s → count_in t x < 4096 → count_in t (tick r x) ≡ (count_in t x + bit_of (is_multiple (period_of s) ((x.base + 8) % 2 ^ 22))) % 4096
  tick-by r x e h =
      tick_count t r x
      ∙ ap (λ (c : Bool). counted c (count_in t x)) (ap (λ (k : ℕ). counts k (pin_in t r) (gained x).base) e ∙ mode_2 s (pin_in t r) (gained x).base two)
      ∙ counted_is (is_multiple (period_of s) ((x.base + 8) % 2 ^ 22)) (count_in t x) h

  -- n cycles
  passed-count : (n : ℕ) (r : Rates) (x : Time) → setting_in t r ≡ s → count_in t x < 4096 → count_in t (passed n r x) ≡ (count_in t x + multiples_met (period_of s) x.base n) % 4096
  unfolding passed
  passed-count zero r x e h = omega arith
  passed-count (suc n) r x e h =
      let c = tick-by r x e h in
      let rest = passed-count n r (tick r x) e (omega (arith, c)) in
      let b = ap (λ (y : ℕ). multiples_met (period_of s) y n) (tick_base r x) in
      omega (arith, c, rest, b)

-- no edge counts in mode 2
events_none : (t : Timer) (s : ℕ) → s / 4 ≡ 2 → (p : Ports) (a b : Bool) (x : Time) → setting_of t p ≡ s → count_in t (event_count p.p28 p.p29 a b x) ≡ count_in t x
unfolding event_count
events_none Timer.TA s two p a b x e = rw (e, two)
events_none Timer.TB s two p a b x e = rw (e, two)

-- time passes over the record of a turn that still runs
after_mode : (mode : Mode) (n : ℕ) (c : Core) → (core_in mode n c).mode ≡ c.mode
after_mode Mode.Running n c = refl
after_mode Mode.Sleep n c = refl
after_mode Mode.Hold n c = refl

still_timed : (n : ℕ) (c : Core) → c.mode ≡ Running → core_after n c ≡ timed n c
unfolding core_after
still_timed n c e = rw e

-- the timers of a record among those of the clock
in_time : (t : Timer) (c : Core) → count_in t (time_of c) ≡ count_of t c.timers
in_time Timer.TA c = refl
in_time Timer.TB c = refl

in_timed : (t : Timer) (n : ℕ) (c : Core) → count_of t (timed n c).timers ≡ count_in t (passed n (rates_of c) (time_of c))
in_timed Timer.TA n c = refl
in_timed Timer.TB n c = refl

in_rates : (t : Timer) (c : Core) → setting_in t (rates_of c) ≡ setting_of t c.ports
in_rates Timer.TA c = refl
in_rates Timer.TB c = refl

-- a source that is none of IL5 to IL0 is 6
abbrev first_due : (ei a b c d e : Bool) → ℕ
first_due ei a b c d e = pick ei (pick a 5 (pick b 3 (pick c 2 (pick d 1 (pick e 0 6))))) 6

none_of : (ei a b c d e : Bool) → ltb (first_due ei a b c d e) 6 ≡ false → first_due ei a b c d e ≡ 6
none_of true true b c d e n = absurd (subst T n tt)
none_of true false true c d e n = absurd (subst T n tt)
none_of true false false true d e n = absurd (subst T n tt)
none_of true false false false true e n = absurd (subst T n tt)
none_of true false false false false true n = absurd (subst T n tt)
none_of true false false false false false n = refl
none_of false a b c d e n = refl

source_none : (n : Machine) → ltb (source_of n.core) 6 ≡ false → source_of n.core ≡ 6
unfolding source_of due_source
source_none n =
    let il = n.core.ints.il in
    let mask = n.core.ints.mask in
    none_of n.core.ints.ei (int0_due il) (trga_due il mask) (trgb_due il mask) (tbi_due il mask) (int1_due il mask)

module _ (m : Machine) (g : StepInput) where
  -- the record that has seen the frame, and the turn that it makes
  abbrev saw : Machine
  saw = sighted g.rom g.options m g.pins

  abbrev turned : Done
  turned = accept_or_run g.rom g.options saw

  saw-base : saw.core.timers.base ≡ m.core.timers.base
  unfolding edges_counted event_count
  saw-base = refl

  saw-in : (t : Timer) → count_of t saw.core.timers ≡ count_in t (edges_counted g.options.device m.core g.pins)
  saw-in Timer.TA = refl
  saw-in Timer.TB = refl

  saw-count : (t : Timer) (s : ℕ) → s / 4 ≡ 2 → setting_of t m.core.ports ≡ s → count_of t saw.core.timers ≡ count_of t m.core.timers
  unfolding edges_counted
  saw-count t s two e = saw-in t ∙ events_none t s two m.core.ports _ _ (edges_timed g.options.device m.core g.pins) e ∙ edges-in t
    where
      edges-in : (t : Timer) → count_in t (edges_timed g.options.device m.core g.pins) ≡ count_of t m.core.timers
      edges-in Timer.TA = refl
      edges-in Timer.TB = refl

  module _ (keeps : KeepsMode m g) (runs : is_running m.core.mode ≡ true) where
    as-turned : step_by m g ≡ after_time turned
    unfolding act_of
    as-turned = step-runs g.rom g.options m g.pins runs

    turned-runs : turned.machine.core.mode ≡ Running
    unfolding core_after
    turned-runs =
        sym (after_mode turned.machine.core.mode turned.cycles turned.machine.core)
        ∙ sym (ap (λ (x : Done). x.machine.core.mode) as-turned) ∙ keeps ∙ running_is m.core.mode runs

    as-timed : (step_by m g).machine.core ≡ timed turned.cycles turned.machine.core
    as-timed = ap (λ (x : Done). x.machine.core) as-turned ∙ still_timed turned.cycles turned.machine.core turned-runs

    turned-base : turned.machine.core.timers.base ≡ m.core.timers.base
    turned-base = turn_base g.rom g.options saw turned-runs ∙ saw-base

    runs-base : m.core.timers.base < 2 ^ 22 → (step_by m g).machine.core.timers.base ≡ (m.core.timers.base + 8 * (step_by m g).cycles) % 2 ^ 22
    runs-base h =
        let n : (step_by m g).cycles ≡ turned.cycles = ap (λ (x : Done). x.cycles) as-turned in
        ap (λ (c : Core). c.timers.base) as-timed
        ∙ passed_base turned.cycles (rates_of turned.machine.core) (time_of turned.machine.core) (omega (arith, turned-base))
        ∙ rw (n, turned-base)

    runs-count : (t : Timer) (s : ℕ) → s / 4 ≡ 2 → CountsOn t s m g → (step_by m g).stop ≡ 0 → count_of t m.core.timers < 4096
        → count_of t (step_by m g).machine.core.timers ≡ (count_of t m.core.timers + multiples_met (period_of s) m.core.timers.base (step_by m g).cycles) % 4096
    runs-count t s two on z h =
        let n : (step_by m g).cycles ≡ turned.cycles = ap (λ (x : Done). x.cycles) as-turned in
        let set : setting_in t (rates_of turned.machine.core) ≡ s = in_rates t turned.machine.core ∙ sym (ap (setting_of t) (ap (λ (c : Core). c.ports) as-timed)) ∙ on.after in
        let none = turn_count t g.rom g.options saw (λ accepts i read. on.writes_none i (record { running = running_is m.core.mode runs; accepts_nothing = ap (λ (x : Done). source_of x.machine.core) (look-runs g.rom g.options m g.pins runs) ∙ source_none saw accepts; read = read; completes = z })) in
        let seen : count_of t turned.machine.core.timers ≡ count_of t m.core.timers = none ∙ saw-count t s two on.before in
        ap (λ (c : Core). count_of t c.timers) as-timed
        ∙ in_timed t turned.cycles turned.machine.core
        ∙ passed-count t s two turned.cycles (rates_of turned.machine.core) (time_of turned.machine.core) set (rw (in_time t turned.machine.core, seen) h)
        ∙ rw (in_time t turned.machine.core, seen, n, turned-base)

    -- a stop leaves what the look left, which counts no edge, and spends nothing
    stopped-count : (t : Timer) (s : ℕ) → s / 4 ≡ 2 → setting_of t m.core.ports ≡ s → ((step_by m g).stop ≡ 0 → ⊥) → count_of t m.core.timers < 4096
        → count_of t (step_by m g).machine.core.timers ≡ (count_of t m.core.timers + multiples_met (period_of s) m.core.timers.base (step_by m g).cycles) % 4096
    stopped-count t s two e z h =
        let left = stop_leaves g.rom g.options m g.pins z in
        let n : (step_by m g).cycles ≡ 0 = ap (λ (x : Done). x.cycles) left in
        let seen : count_of t (step_by m g).machine.core.timers ≡ count_of t m.core.timers =
        ap (λ (x : Done). count_of t x.machine.core.timers) left
        ∙ ap (λ (x : Done). count_of t x.machine.core.timers) (look-runs g.rom g.options m g.pins runs)
        ∙ saw-count t s two e in
        rw (n, seen) (omega arith)

-- asleep or holding, and not awake again: nothing passes
abbrev Idle : Core → Looked → Type 0
Idle m l = l.core.mode ≡ m.mode → (l.cycles ≡ 0) × (l.core.timers ≡ m.timers)

waits_idle : (enabled : ℕ) (m : Core) (new : Pins) → is_running m.mode ≡ false → Idle m (waited enabled m new)
unfolding waited
waits_idle enabled m new e =
    picked (Idle m) (wakes (releases_by_level m.ports.p16) enabled m.pins new) _ _
    (λ k. absurd (subst T e (subst (λ (x : Mode). T (is_running x)) k tt))) (λ k. (refl, refl))

module _ (m : Machine) (g : StepInput) (keeps : KeepsMode m g) where
  idle : is_running m.core.mode ≡ false → ((step_by m g).cycles ≡ 0) × ((step_by m g).machine.core.timers ≡ m.core.timers)
  idle e =
      let w = step_waits g.rom g.options m g.pins e in
      let i = waits_idle g.options.wake m.core g.pins e (sym (ap (λ (x : Done). x.machine.core.mode) w) ∙ keeps) in
      (ap (λ (x : Done). x.cycles) w ∙ i.0, ap (λ (x : Done). x.machine.core.timers) w ∙ i.1)

  base-by : (t : Bool) → is_running m.core.mode ≡ t → m.core.timers.base < 2 ^ 22 → (step_by m g).machine.core.timers.base ≡ (m.core.timers.base + 8 * (step_by m g).cycles) % 2 ^ 22
  base-by true e h = runs-base m g keeps e h
  base-by false e h = rw ((idle e).0, (idle e).1) (omega arith)

  -- a step that keeps the mode
  pub step-base : m.core.timers.base < 2 ^ 22 → (step_by m g).machine.core.timers.base ≡ (m.core.timers.base + 8 * (step_by m g).cycles) % 2 ^ 22
  step-base h = base-by (is_running m.core.mode) refl h

module _ (t : Timer) (s : ℕ) (two : s / 4 ≡ 2) (m : Machine) (g : StepInput) (on : CountsOn t s m g) where
  running-count : is_running m.core.mode ≡ true → Dec ((step_by m g).stop ≡ 0) → count_of t m.core.timers < 4096 → count_of t (step_by m g).machine.core.timers ≡ (count_of t m.core.timers + multiples_met (period_of s) m.core.timers.base (step_by m g).cycles) % 4096
  running-count e (yes z) h = runs-count m g on.keeps_mode e t s two on z h
  running-count e (no z) h = stopped-count m g on.keeps_mode e t s two on.before z h

  count_by : (r : Bool) → is_running m.core.mode ≡ r → count_of t m.core.timers < 4096 → count_of t (step_by m g).machine.core.timers ≡ (count_of t m.core.timers + multiples_met (period_of s) m.core.timers.base (step_by m g).cycles) % 4096
  count_by true e h = running-count e (ℕ_discrete (step_by m g).stop 0) h
  count_by false e h = rw ((idle m g on.keeps_mode e).0, (idle m g on.keeps_mode e).1) (omega arith)

  -- and leaves the timer counting
  pub step_count : count_of t m.core.timers < 4096 → count_of t (step_by m g).machine.core.timers ≡ (count_of t m.core.timers + multiples_met (period_of s) m.core.timers.base (step_by m g).cycles) % 4096
  step_count h = count_by (is_running m.core.mode) refl h
