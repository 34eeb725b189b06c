-- Where nothing recurs, no more calls are open at once than there are entries: so large a stack is enough.
use mathlib.Core.Path.{◌≡◌, refl, ap}
use mathlib.Core.Bool.{Bool}
use mathlib.Core.List.{List, [], ◌∷◌}
use Prim.Native.Nat.{ℕ, suc, ◌≤◌}
use native.Mathlib.Omega.{arith}
use lib.ListN.{length}
use Rattle.routines.specs.Calling.{Flow, Routine, outer, called, Live, call, Calls, Recurs}
use Rattle.routines.specs.Shape.{Small, Widens}
use Rattle.routines.proofs.Accessible.{Trail, alone, by, trail-few}
use Rattle.routines.proofs.Wide.{wide-recurs}
use Rattle.routines.proofs.Done.{Nested, none, inner, called-lt}

-- the open calls are a way of calls to the routine
trail_of : {f : Flow} {K : ℕ → Bool} {e : ℕ} {ks : List ℕ} → Nested f K (called e) ks → (l : List ℕ) × Trail (Calls f K) (λ d. Live f K (called d)) e l × (length ks ≡ suc (length l))
trail_of (inner {r = outer} none live i k) = ([], alone, refl)
trail_of (inner {r = called d} {u = u} n live i k) = let t = trail_of n in (d ∷ t.0, by live (u, i, k, refl) t.1, ap suc t.2)

pub open_few : {f : Flow} {K : ℕ → Bool} {n E : ℕ} → Small f n E → Widens f → ((e : ℕ) → Recurs f e → ⊥) → {r : Routine} {ks : List ℕ} → Nested f K r ks → Live f K r → length ks ≤ E
open_few small widens no_recursion none live = omega arith
open_few {f} {K} {E = E} small widens no_recursion (inner {u = u} n l i k) live =
    let t = trail_of (inner n l i k) in
    let h = trail-few (Calls f K) (λ d. Live f K (called d)) E (λ d e l c. rw c.3 at (call l c.1 c.2)) (λ e l. called-lt f K small l) (λ e l p. no_recursion e (wide-recurs f widens K e l p)) (f.entry u) t.0 live t.1 in
    omega (arith, t.2, h)
