-- Where nothing recurs there is a K that says what is known after calls.
use mathlib.Core.Path.{◌≡◌, refl, sym, ◌∙◌}
use mathlib.Core.Bool.{Bool, true, false}
use mathlib.Core.List.{List, [], ◌∷◌}
use Prim.Native.Nat.{ℕ, zero, suc, ◌+◌, ◌≤◌, ◌<◌}
use native.Mathlib.Omega.{arith}
use native.Mathlib.Decide.{ℕ_discrete, dec_lt}
use lib.ListN.{length}
use Rattle.graph.specs.Graph.{Reach}
use Rattle.routines.specs.Calling.{Flow, called, unknown, within, Live, call, ReturnsKnown, Knows, Calls, Recurs}
use Rattle.routines.specs.Shape.{Small, Widens}
use Rattle.routines.specs.Answer.{Judged}
use Rattle.routines.proofs.Accessible.{Trail, alone, by, too_long}
use Rattle.routines.proofs.Wide.{wide-calls, wide-live}
use Rattle.routines.proofs.Done.{inside, called-lt}
use Rattle.routines.proofs.Decide.{reached-dec}
use Rattle.routines.proofs.Stages.{returns_by}

bool_dec : (a : Bool) → Dec (a ≡ true)
bool_dec true = yes refl
bool_dec false = no (λ e. let z : ◌≡◌ {A = ℕ} 0 1 = cc in omega arith)

-- b says whether P
record Says (b : Bool) (P : Type 0) : Type 0 where
  yes_if : P → b ≡ true
  only_if : b ≡ true → P

-- it is decided of a routine whether each RET that is reached in it stands at a known place
returns_dec : (f : Flow) (K : ℕ → Bool) {n E : ℕ} → Small f n E → (e : ℕ) → e < E → (b : Bool) × Says b (ReturnsKnown f K e)
returns_dec f K {n} small e l = go (reached-dec (within f K (called e)) n (inside f K small (called e)) (λ v. (f.kind v ≡ 4) × (f.known v ≡ true → ⊥)) bad-dec (f.from e) (small.from e l))
  where
    bad-dec : (v : ℕ) → Dec ((f.kind v ≡ 4) × (f.known v ≡ true → ⊥))
    bad-dec v = both (ℕ_discrete (f.kind v) 4) (bool_dec (f.known v))
      where
        both : Dec (f.kind v ≡ 4) → Dec (f.known v ≡ true) → Dec ((f.kind v ≡ 4) × (f.known v ≡ true → ⊥))
        both (no a) b = no (λ x. a x.0)
        both (yes a) (yes b) = no (λ x. x.1 b)
        both (yes a) (no b) = yes (a, b)

    known_of : (b : Bool) → ((b ≡ true → ⊥) → ⊥) → b ≡ true
    known_of true h = refl
    known_of false h = absurd (h (λ e. let z : ◌≡◌ {A = ℕ} 0 1 = cc in omega arith))

    go : Dec ((v : ℕ) × Reach (within f K (called e)) (f.from e) v × ((f.kind v ≡ 4) × (f.known v ≡ true → ⊥))) → (b : Bool) × Says b (ReturnsKnown f K e)
    go (yes x) = (false, record { yes_if = λ h. absurd (x.2.1 (h x.0 x.1 x.2.0)); only_if = λ q. absurd (let z : ◌≡◌ {A = ℕ} 0 1 = cc in omega arith) })
    go (no x) = (true, record { yes_if = λ h. refl; only_if = λ q v i k. known_of (f.known v) (λ z. x (v, i, (k, z))) })

-- each routine judged by K
again_by : (f : Flow) {n E : ℕ} → Small f n E → (ℕ → Bool) → (e : ℕ) → Dec (e < E) → Bool
again_by f small K e (yes l) = (returns_dec f K small e l).0
again_by f small K e (no l) = false

again : (f : Flow) {n E : ℕ} → Small f n E → (ℕ → Bool) → ℕ → Bool
again f {E = E} small K e = again_by f small K e (dec_lt e E)

again_says : (f : Flow) {n E : ℕ} (small : Small f n E) (K : ℕ → Bool) (e : ℕ) → e < E → Says (again f small K e) (ReturnsKnown f K e)
unfolding again again_by
again_says f {E = E} small K e l = go (dec_lt e E)
  where
    go : (d : Dec (e < E)) → Says (again_by f small K e d) (ReturnsKnown f K e)
    go (yes l') = (returns_dec f K small e l').1
    go (no m) = absurd (m l)

-- so often
judged : (f : Flow) {n E : ℕ} → Small f n E → ℕ → ℕ → Bool
judged f small zero = unknown
judged f small (suc k) = again f small (judged f small k)

-- so many calls can be followed from e at most
Height : (ℕ → ℕ → Type 0) → ℕ → ℕ → Type 0
Height R zero e = (d : ℕ) → R e d → ⊥
Height R (suc k) e = (d : ℕ) → R e d → Height R k d

says_same : {a b : Bool} {P Q : Type 0} → Says a P → Says b Q → (P → Q) → (Q → P) → a ≡ b
says_same {a} {b} x y to of = go a b (λ p. y.yes_if (to (x.only_if p))) (λ q. x.yes_if (of (y.only_if q)))
  where
    go : (a b : Bool) → (a ≡ true → b ≡ true) → (b ≡ true → a ≡ true) → a ≡ b
    go true b p q = sym (p refl)
    go false true p q = q refl
    go false false p q = refl

module _ (f : Flow) {n E : ℕ} (small : Small f n E) (widens : Widens f) (no_recursion : (e : ℕ) → Recurs f e → ⊥) where
  live_on : (d e : ℕ) → Live f unknown (called d) → Calls f unknown d e → Live f unknown (called e)
  live_on d e l c = rw c.3 at (call l c.1 c.2)

  -- of a reachable routine no more than n calls can be followed
  high : (k e : ℕ) (l : List ℕ) → Live f unknown (called e) → Trail (Calls f unknown) (λ e. Live f unknown (called e)) e l → length l + k ≡ E → Height (Calls f unknown) k e
  unfolding Height
  high zero e l live t z = absurd (too_long (Calls f unknown) (λ e. Live f unknown (called e)) E live_on (λ e l. called-lt f unknown small l) (λ e l p. no_recursion e (l, p)) e l live t (omega arith))
  high (suc k) e l live t z = λ d c. high k d (e ∷ l) (live_on e d live c) (by live c t) (omega arith)

  -- judged more often than that, a routine is judged the same
  settled : (k e : ℕ) → Live f unknown (called e) → Height (Calls f unknown) k e → (i j : ℕ) → k ≤ i → k ≤ j → judged f small (suc i) e ≡ judged f small (suc j) e
  unfolding judged Height
  settled zero e live h i j a b =
      says_same (again_says f small (judged f small i) e (called-lt f unknown small live)) (again_says f small (judged f small j) e (called-lt f unknown small live))
      (returns_by f (judged f small i) (judged f small j) e (λ d c. absurd (h d (wide-calls f widens (judged f small j) e d c))))
      (returns_by f (judged f small j) (judged f small i) e (λ d c. absurd (h d (wide-calls f widens (judged f small i) e d c))))
  settled (suc k) e live h zero j a b = absurd (omega arith)
  settled (suc k) e live h (suc i) zero a b = absurd (omega arith)
  settled (suc k) e live h (suc i) (suc j) a b =
      let same : (d : ℕ) → Calls f unknown e d → judged f small (suc i) d ≡ judged f small (suc j) d = λ d c. settled k d (live_on e d live c) (h d c) i j (omega arith) (omega arith) in
      says_same (again_says f small (judged f small (suc i)) e (called-lt f unknown small live)) (again_says f small (judged f small (suc j)) e (called-lt f unknown small live))
      (returns_by f (judged f small (suc i)) (judged f small (suc j)) e (λ d c. same d (wide-calls f widens (judged f small (suc j)) e d c)))
      (returns_by f (judged f small (suc j)) (judged f small (suc i)) e (λ d c. sym (same d (wide-calls f widens (judged f small (suc i)) e d c))))

  pub knows : (K : ℕ → Bool) × Knows f K
  unfolding judged
  knows = (
    judged f small (suc E),
    record {
      yes_if = λ e l h. same e l ∙ (says e l).yes_if h;
      only_if = λ e l h. (says e l).only_if (sym (same e l) ∙ h);
    },
  )
    where
      wide : (e : ℕ) → Live f (judged f small (suc E)) (called e) → Live f unknown (called e)
      wide e l = wide-live f widens (judged f small (suc E)) l

      says : (e : ℕ) → Live f (judged f small (suc E)) (called e) → Says (judged f small (suc (suc E)) e) (ReturnsKnown f (judged f small (suc E)) e)
      says e l = again_says f small (judged f small (suc E)) e (called-lt f unknown small (wide e l))

      same : (e : ℕ) → Live f (judged f small (suc E)) (called e) → judged f small (suc E) e ≡ judged f small (suc (suc E)) e
      same e l = settled E e (wide e l) (high E e [] (wide e l) alone (omega arith)) E (suc E) (omega arith) (omega arith)

-- where nothing recurs, all is judged; where then nothing is refused on the flow, N, depth and their paths exist
pub all_judged : (f : Flow) {n E : ℕ} → Small f n E → Widens f → ((e : ℕ) → Recurs f e → ⊥) → (K : ℕ → Bool) × Judged f K
all_judged f small widens no_recursion = let k = knows f small widens no_recursion in (k.0, record { no_recursion = no_recursion; knows = k.1 })
