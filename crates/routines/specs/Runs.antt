-- Request Q-9: "The statement about emulated runs then holds for runs in which no instruction but a call stores into a stack level from SP at that time (included) up to the SP at
-- the start (not included).", over any machine with a stack. Nothing here knows the chip.
use Rattle.std.specs.Prelude.{◌≡◌, ◌⊎◌, true, false, List, [], ◌∷◌, ℕ, suc, ◌+◌, ◌≤◌, ◌<◌}
use Rattle.routines.specs.Calling.{Flow}

-- a machine that steps once a frame: the state after the step and its cycles; whether the step ends the handler ("the return or a named stop"), whether it is the return, RTI, whether it completes, and
-- whether it executes a call; SP, and the address that each level of the stack holds
pub record Machine : Type 1 where
  pub State : Type 0
  pub Frame : Type 0
  pub step : State → Frame → State
  pub spends : State → Frame → ℕ
  pub Ends : State → Frame → Type 0
  pub Returns : State → Frame → Type 0
  pub Completes : State → Frame → Type 0
  pub Calls : State → Frame → Type 0
  pub sp : State → ℕ
  pub level : State → ℕ → ℕ

-- the step completes and does not end the handler
abbrev pub GoesPast : (M : Machine) → M.State → M.Frame → Type 0
GoesPast M s x = (M.Ends s x → ⊥) × M.Completes s x

-- the run ends with its k-th step, having spent so many cycles; where that step is the return, SP is what it was at the start
pub data EndsAt (M : Machine) (start : ℕ) : M.State → List M.Frame → ℕ → ℕ → Type 0 where
  now : {s : M.State} {x : M.Frame} {xs : List M.Frame} → M.Ends s x → (M.Returns s x → M.sp s ≡ start) → EndsAt M start s (x ∷ xs) 1 (M.spends s x)
  later : {s : M.State} {x : M.Frame} {xs : List M.Frame} {k n : ℕ} → GoesPast M s x → EndsAt M start (M.step s x) xs k n → EndsAt M start s (x ∷ xs) (suc k) (M.spends s x + n)

-- the step leaves what the stack's levels hold "from SP at that time (included) up to the SP at the start (not included)". A step that stores into none of them does
abbrev pub Spares : (M : Machine) → ℕ → M.State → M.Frame → Type 0
Spares M start s x = (i : ℕ) → M.sp s ≤ i → i < start → M.level (M.step s x) i ≡ M.level s i

-- "runs in which no instruction but a call stores into" one, up to the step that ends the handler
unfoldable pub SparesStack : (M : Machine) → ℕ → M.State → List M.Frame → Type 0
SparesStack M start s [] = Unit
SparesStack M start s (x ∷ xs) = (M.Ends s x → ⊥) → ((M.Calls s x → ⊥) → Spares M start s x) × SparesStack M start (M.step s x) xs

-- what the flow rules give: a place that is not excluded costs something; both places after a call stand at the address that it stores; the one has SF unknown
pub record Standard (f : Flow) (n : ℕ) (cycles address : ℕ → ℕ) : Type 0 where
  pub costs : (v : ℕ) → v < n → 1 ≤ f.kind v → f.kind v ≤ 4 → 0 < cycles v
  pub one_address : (v : ℕ) → f.kind v ≡ 3 → address (f.other v) ≡ address (f.next v)
  pub unknown_after : (v : ℕ) → f.kind v ≡ 3 → f.known (f.next v) ≡ false

-- what a step does from a state that stands at the place v (At): the one lemma that the chip has to supply
pub data Follows (M : Machine) (f : Flow) (cycles address : ℕ → ℕ) (At : M.State → ℕ → Type 0) (s : M.State) (x : M.Frame) (v : ℕ) : Type 0 where
  ends : M.Ends s x → (M.Returns s x → f.kind v ≡ 2) → M.spends s x ≤ cycles v → Follows M f cycles address At s x v
  goes : {w : ℕ} → f.kind v ≡ 1 → (w ≡ f.next v) ⊎ (w ≡ f.other v) → GoesPast M s x → (M.Calls s x → ⊥) → M.spends s x ≡ cycles v
      → At (M.step s x) w → M.sp (M.step s x) ≡ M.sp s → Follows M f cycles address At s x v
  -- "A call or acceptance lowers SP first": it stores below the levels in use
  calls : f.kind v ≡ 3 → GoesPast M s x → M.spends s x ≡ cycles v
      → At (M.step s x) (f.from (f.entry v)) → suc (M.sp (M.step s x)) ≡ M.sp s → M.level (M.step s x) (M.sp (M.step s x)) ≡ address (f.next v)
      → ((i : ℕ) → M.sp s ≤ i → M.level (M.step s x) i ≡ M.level s i) → Follows M f cycles address At s x v
  -- "RET .. read level SP, then raise it"; SF stays: it is known set where it was
  returns : f.kind v ≡ 4 → GoesPast M s x → (M.Calls s x → ⊥) → M.spends s x ≡ cycles v
      → ((w : ℕ) → address w ≡ M.level s (M.sp s) → (f.known w ≡ true → f.known v ≡ true) → At (M.step s x) w) → M.sp (M.step s x) ≡ suc (M.sp s)
      → Follows M f cycles address At s x v

abbrev pub OneStep : (M : Machine) → Flow → (ℕ → ℕ) → (ℕ → ℕ) → (M.State → ℕ → Type 0) → Type 0
OneStep M f cycles address At = (s : M.State) (x : M.Frame) (v : ℕ) → At s v → 1 ≤ f.kind v → f.kind v ≤ 4 → Follows M f cycles address At s x v

-- "reaches the return or a named stop having spent at most N", in at most N steps
pub record EndsWithin (M : Machine) (start : ℕ) (s : M.State) (frames : List M.Frame) (N : ℕ) : Type 0 where
  pub steps : ℕ
  pub spent : ℕ
  pub ends : EndsAt M start s frames steps spent
  pub steps_most : steps ≤ N
  pub spent_most : spent ≤ N
