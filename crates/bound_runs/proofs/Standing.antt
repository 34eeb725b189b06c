-- A record stands at a place of the flow rules: at its address, running, with EI clear and the P3 of the start, and with SF set where the place knows it.
use mathlib.Core.Path.{◌≡◌, refl}
use mathlib.Core.Bool.{Bool, true, false}
use Prim.Native.Nat.{ℕ, ◌+◌, ◌*◌, ◌%◌}
use native.Mathlib.Omega.{arith}
use borrow.Author.Tests.{eqb-true}
use Rattle.ports.specs.declared.Mode.{Mode}
use Rattle.ports.specs.declared.Mode.TheVariants.{Running}
use Rattle.record.specs.declared.Core.{Core}
use Rattle.step_act.specs.Act.{core_in, core_after}
use Rattle.bound_flow.specs.Flow.{place, address_of, is_known}

pub record Standing (m : Core) (p3 v : ℕ) : Type 0 where
  pub at : m.pc ≡ address_of v
  pub running : m.mode ≡ Running
  pub ei : m.ints.ei ≡ false
  pub bank : m.ports.p3 ≡ p3
  pub sf : is_known v ≡ true → m.regs.sf ≡ true

-- a place is an address and what is known there
pub address_place : (at : ℕ) (known : Bool) → address_of (place at known) ≡ at
address_place at true = omega arith
address_place at false = omega arith

pub known_place : (at : ℕ) (known : Bool) → is_known (place at known) ≡ true → known ≡ true
known_place at true e = refl
known_place at false e = absurd (omega (arith, eqb-true ((2 * at + 0) % 2) 1 e))

-- time leaves it there
stands_in : (mode : Mode) (n : ℕ) {m : Core} {p3 v : ℕ} → Standing m p3 v → Standing (core_in mode n m) p3 v
stands_in Mode.Running n h = record { at = h.at; running = h.running; ei = h.ei; bank = h.bank; sf = h.sf }
stands_in Mode.Sleep n h = h
stands_in Mode.Hold n h = h

pub stands_after : (n : ℕ) {m : Core} {p3 v : ℕ} → Standing m p3 v → Standing (core_after n m) p3 v
unfolding core_after
stands_after n {m} h = stands_in m.mode n h
