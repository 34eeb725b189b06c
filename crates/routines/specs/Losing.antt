-- From which places a RET at an unknown place is reached, all routines at once: what an algorithm marks to know SF after calls.
use Rattle.std.specs.Prelude.{◌≡◌, Bool, true, false, not, ℕ}
use Rattle.routines.specs.Calling.{Flow}

-- a call goes on with SF known, and, where its routine loses it, unknown. What follows a known place also follows the unknown one, so that no call has to be judged before another
pub data Loses (f : Flow) : ℕ → Type 0 where
  returns : {v : ℕ} → f.kind v ≡ 4 → f.known v ≡ false → Loses f v
  by_next : {v : ℕ} → f.kind v ≡ 1 → Loses f (f.next v) → Loses f v
  by_other : {v : ℕ} → f.kind v ≡ 1 → Loses f (f.other v) → Loses f v
  past_known : {v : ℕ} → f.kind v ≡ 3 → Loses f (f.other v) → Loses f v
  past_unknown : {v : ℕ} → f.kind v ≡ 3 → Loses f (f.from (f.entry v)) → Loses f (f.next v) → Loses f v

-- places that are left only for others of them, calls into their routines and to both places after them included; the handler starts there
pub record Region (f : Flow) (R : ℕ → Type 0) : Type 0 where
  pub start : R f.start
  pub next : (v : ℕ) → R v → f.kind v ≡ 1 → R (f.next v)
  pub other : (v : ℕ) → R v → f.kind v ≡ 1 → R (f.other v)
  pub unknown_after : (v : ℕ) → R v → f.kind v ≡ 3 → R (f.next v)
  pub known_after : (v : ℕ) → R v → f.kind v ≡ 3 → R (f.other v)
  pub into : (v : ℕ) → R v → f.kind v ≡ 3 → R (f.from (f.entry v))

-- the marks of the places of a region: only such places, and, place by place, all of them
pub record Marks (f : Flow) (R : ℕ → Type 0) (m : ℕ → Bool) : Type 0 where
  pub sound : (v : ℕ) → m v ≡ true → Loses f v
  pub returns : (v : ℕ) → R v → f.kind v ≡ 4 → f.known v ≡ false → m v ≡ true
  pub by_next : (v : ℕ) → R v → f.kind v ≡ 1 → m (f.next v) ≡ true → m v ≡ true
  pub by_other : (v : ℕ) → R v → f.kind v ≡ 1 → m (f.other v) ≡ true → m v ≡ true
  pub past_known : (v : ℕ) → R v → f.kind v ≡ 3 → m (f.other v) ≡ true → m v ≡ true
  pub past_unknown : (v : ℕ) → R v → f.kind v ≡ 3 → m (f.from (f.entry v)) ≡ true → m (f.next v) ≡ true → m v ≡ true

-- SF is known after a call of a routine whose first place has no mark
abbrev pub known_by : Flow → (ℕ → Bool) → ℕ → Bool
known_by f m e = not (m (f.from e))

-- the place after a call where SF is known is a known one
pub record KnownAfter (f : Flow) : Type 0 where
  pub is : (v : ℕ) → f.kind v ≡ 3 → f.known (f.other v) ≡ true
