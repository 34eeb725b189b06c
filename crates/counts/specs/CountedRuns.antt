-- COUNTS.md, "What N promises", over any machine with a stack. Nothing here knows the chip.
use Rattle.std.specs.Prelude.{List, [], ◌∷◌, ℕ, suc, ◌+◌, ◌≤◌}
use Rattle.routines.specs.Runs.{Machine, GoesPast, EndsAt}
use Rattle.counts.specs.Counts.{Count, Numbers, none, used, Fits}

-- what the counts ask of a machine besides: the address of the row that a state executes next, and whether a step executes RET
pub record Watched (M : Machine) : Type 1 where
  pub pc : M.State → ℕ
  pub Backs : M.State → M.Frame → Type 0

-- an address as a place of its own
abbrev pub itself : ℕ → ℕ
itself a = a

-- "A run keeps the counts while no activation begun in it has executed a counted row more often than its k.": u are the numbers of the activation, with the row that is next, and us those of the open callers.
-- "The outer handler is one; each call starts a new one .. It ends with its RTI or RET."
pub data Keeps (M : Machine) (W : Watched M) (C : List Count) : List Numbers → Numbers → M.State → List M.Frame → Type 0 where
  no_frame : {us : List Numbers} {u : Numbers} {s : M.State} → Keeps M W C us u s []
  ends : {us : List Numbers} {u : Numbers} {s : M.State} {x : M.Frame} {xs : List M.Frame} → M.Ends s x → Keeps M W C us u s (x ∷ xs)
  goes_on : {us : List Numbers} {u : Numbers} {s : M.State} {x : M.Frame} {xs : List M.Frame} → (M.Calls s x → ⊥) → (W.Backs s x → ⊥) → Fits itself C u (W.pc (M.step s x))
      → Keeps M W C us (used itself u (W.pc (M.step s x))) (M.step s x) xs → Keeps M W C us u s (x ∷ xs)
  calls : {us : List Numbers} {u : Numbers} {s : M.State} {x : M.Frame} {xs : List M.Frame} → M.Calls s x
      → Keeps M W C (u ∷ us) (used itself none (W.pc (M.step s x))) (M.step s x) xs → Keeps M W C us u s (x ∷ xs)
  backs : {us : List Numbers} {u t : Numbers} {s : M.State} {x : M.Frame} {xs : List M.Frame} → W.Backs s x → Fits itself C t (W.pc (M.step s x))
      → Keeps M W C us (used itself t (W.pc (M.step s x))) (M.step s x) xs → Keeps M W C (t ∷ us) u s (x ∷ xs)

-- "in this activation so far, this row included"
abbrev pub KeepsCounts : (M : Machine) (W : Watched M) → List Count → M.State → List M.Frame → Type 0
KeepsCounts M W C s frames = Keeps M W C [] (used itself none (W.pc s)) s frames

-- the run returns with its k-th step, having spent so many cycles
pub data ReturnsAt (M : Machine) : M.State → List M.Frame → ℕ → ℕ → Type 0 where
  now : {s : M.State} {x : M.Frame} {xs : List M.Frame} → M.Ends s x → M.Returns s x → ReturnsAt M s (x ∷ xs) 1 (M.spends s x)
  later : {s : M.State} {x : M.Frame} {xs : List M.Frame} {k n : ℕ} → GoesPast M s x → ReturnsAt M (M.step s x) xs k n → ReturnsAt M s (x ∷ xs) (suc k) (M.spends s x + n)

-- the run ends, by the return or a named stop, in at most so many steps
pub record EndsSoon (M : Machine) (start : ℕ) (s : M.State) (frames : List M.Frame) (most : ℕ) : Type 0 where
  pub steps : ℕ
  pub spent : ℕ
  pub ends : EndsAt M start s frames steps spent
  pub soon : steps ≤ most
