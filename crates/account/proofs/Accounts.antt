-- The accounts of a sequence of steps, step by step.
use mathlib.Core.Path.{◌≡◌}
use mathlib.Core.List.{List, [], ◌∷◌}
use Prim.Native.Nat.{ℕ, ◌+◌, ◌*◌, ◌/◌, ◌%◌, ◌^◌, ◌<◌}
use native.Mathlib.Omega.{arith}
use Rattle.record.specs.Valid.{ValidTimers}
use Rattle.record.specs.declared.Timers.{Timers}
use Rattle.record.specs.declared.Machine.{Machine}
use Rattle.account.specs.Sequence.{StepInput, step_by, record_after, cycles_spent, EachStep, KeepsMode}
use Rattle.account.specs.Account.{ClockAccount, Timer, count_of, CountsOn, multiples_met, period_of, TimerAccount}
use Rattle.account.proofs.Multiples.{met_sum}
use Rattle.account.proofs.Steps.{step-base, step_count}

bases : (m : Machine) (gs : List StepInput) → m.core.timers.base < 2 ^ 22 → EachStep KeepsMode m gs → (record_after m gs).core.timers.base ≡ (m.core.timers.base + 8 * cycles_spent m gs) % 2 ^ 22
bases m [] h each = omega arith
bases m (g ∷ gs) h each =
    let e = step-base m g each.0 h in
    let rest = bases (step_by m g).machine gs (omega (arith, e)) each.1 in
    omega (arith, e, rest)

pub clock_account : ClockAccount
clock_account m gs v each = bases m gs v.base each

pub counts_below : (t : Timer) (x : Timers) → ValidTimers x → count_of t x < 4096
counts_below Timer.TA x v = v.ta
counts_below Timer.TB x v = v.tb

module _ (t : Timer) (s : ℕ) (two : s / 4 ≡ 2) where
  counts : (m : Machine) (gs : List StepInput) → m.core.timers.base < 2 ^ 22 → count_of t m.core.timers < 4096 → EachStep (CountsOn t s) m gs
      → count_of t (record_after m gs).core.timers ≡ (count_of t m.core.timers + multiples_met (period_of s) m.core.timers.base (cycles_spent m gs)) % 4096
  counts m [] h k each = omega arith
  counts m (g ∷ gs) h k each =
      let b = step-base m g each.0.keeps_mode h in
      let c = step_count t s two m g each.0 k in
      let rest = counts (step_by m g).machine gs (omega (arith, b)) (omega (arith, c)) each.1 in
      let sum = met_sum (period_of s) m.core.timers.base (step_by m g).cycles (cycles_spent (step_by m g).machine gs) h in
      omega (arith, c, rw b at rest, sum)

pub timer_account : TimerAccount
timer_account t s two m gs v each = counts t s two m gs v.base (counts_below t m.core.timers v) each
