-- Which of the six holds, by what is found in the request's order.
use Prim.Native.Nat.{ℕ, ◌^◌}
use mathlib.Core.Path.{◌≡◌, refl, subst}
use mathlib.Core.Bool.{Bool, true, false}
use lib.Dec.{eqb}
use borrow.Author.Tests.{eqb-true, eqb-false, eq-eqb, ne_eqb}
use Rattle.bits.specs.Bits.{without_bit}
use Rattle.due.specs.Due.{due_source}
use Rattle.record.specs.Stack.{can_push}
use Rattle.record.specs.Valid.{ValidInterrupts, ValidCore}
use Rattle.record.specs.declared.Core.{Core}
use Rattle.device.specs.declared.Device.{Device}
use Rattle.device.specs.declared.Options.{Options}
use Rattle.frame.specs.Frame.{PinsInRange}
use Rattle.frame.specs.declared.Pins.{Pins}
use Rattle.step_look.specs.Look.{seen, is_running}
use Rattle.step_look.proofs.LookValid.{seen_valid}
use Rattle.step_why.specs.declared.Reason.{Reason}
use Rattle.step_why.specs.Why.{due_set, taken_of, why_seen, why_of}
use Rattle.step_why.proofs.Sources.{none_latched}

module _ (m : Core) where
  pub disabled : m.ints.ei ≡ false → Reason.Disabled ≡ why_seen m
  unfolding why_seen
  disabled e = rw e

  module _ (enabled : m.ints.ei ≡ true) where
    pub nothing : m.ints.il ≡ 0 → Reason.Nothing ≡ why_seen m
    unfolding why_seen
    nothing e = rw (enabled, eq-eqb m.ints.il 0 e)

    module _ (latched : m.ints.il ≡ 0 → ⊥) (set : ℕ) (due : set ≡ due_set m.ints.il m.ints.mask) where
      pub masked : set ≡ 0 → Reason.Masked m.ints.il ≡ why_seen m
      unfolding why_seen
      masked e = rw (enabled, ne_eqb m.ints.il 0 latched, ← due, eq-eqb set 0 e)

      module _ (some : set ≡ 0 → ⊥) where
        pub refuses : can_push m ≡ false → Reason.Level set ≡ why_seen m
        unfolding why_seen
        refuses e = rw (enabled, ne_eqb m.ints.il 0 latched, ← due, ne_eqb set 0 some, e)

        pub takes : can_push m ≡ true → taken_of m.ints.il m.ints.mask ≡ why_seen m
        unfolding why_seen
        takes e = rw (enabled, ne_eqb m.ints.il 0 latched, ← due, ne_eqb set 0 some, e)

-- the source and the others, as they are worked out
pub taken_by : (il mask set source weight waiting : ℕ) → set ≡ due_set il mask → source ≡ due_source il mask → weight ≡ 2 ^ source → waiting ≡ without_bit set weight → Reason.Accepted (record { source = source; waiting = waiting }) ≡ taken_of il mask
taken_by il mask set source weight waiting due first w e = rw (e, w, first, due)

-- what holds by each reason holds of the answer
module _ (m : Core) (P : Reason → Type 0) where
  abbrev due : ℕ
  due = due_set m.ints.il m.ints.mask

  pub record ByReason : Type 0 where
    pub on-disabled : m.ints.ei ≡ false → P Reason.Disabled
    pub on-nothing : due ≡ 0 → P Reason.Nothing
    pub on-masked : due ≡ 0 → P (Reason.Masked m.ints.il)
    pub on-level : m.ints.ei ≡ true → (due ≡ 0 → ⊥) → can_push m ≡ false → P (Reason.Level due)
    pub on-taken : m.ints.ei ≡ true → (due ≡ 0 → ⊥) → can_push m ≡ true → P (taken_of m.ints.il m.ints.mask)

  by_tests : ByReason → (ei none empty push : Bool) → m.ints.ei ≡ ei → eqb m.ints.il 0 ≡ none → eqb due 0 ≡ empty → can_push m ≡ push → P (why_seen m)
  by_tests r false none empty push e n d p = subst P (disabled m e) (r.on-disabled e)
  by_tests r true true empty push e n d p =
      let z = eqb-true m.ints.il 0 n in
      subst P (nothing m e z) (r.on-nothing (none_latched m.ints.il m.ints.mask z))
  by_tests r true false true push e n d p =
      subst P (masked m e (eqb-false m.ints.il 0 n) due refl (eqb-true due 0 d)) (r.on-masked (eqb-true due 0 d))
  by_tests r true false false false e n d p =
      subst P (refuses m e (eqb-false m.ints.il 0 n) due refl (eqb-false due 0 d) p) (r.on-level e (eqb-false due 0 d) p)
  by_tests r true false false true e n d p =
      subst P (takes m e (eqb-false m.ints.il 0 n) due refl (eqb-false due 0 d) p) (r.on-taken e (eqb-false due 0 d) p)

  pub by-reason : ByReason → P (why_seen m)
  by-reason r = by_tests r m.ints.ei (eqb m.ints.il 0) (eqb due 0) (can_push m) refl refl refl refl

-- a running record has seen the frame; another one waits
module _ (o : Options) (m : Core) (new : Pins) where
  pub of-seen : (core : Core) → core ≡ seen o.device m new → is_running m.mode ≡ true → why_seen core ≡ why_of o m new
  unfolding why_of
  of-seen core e t = rw (t, e)

  pub of-waiting : is_running m.mode ≡ false → Reason.Waiting ≡ why_of o m new
  unfolding why_of
  of-waiting t = rw t

pub seen_ints : (d : Device) (m : Core) (new : Pins) (core : Core) → core ≡ seen d m new → ValidCore d m → PinsInRange d new → ValidInterrupts core.ints
seen_ints d m new core e v p = rw e (seen_valid d m new v p).ints
