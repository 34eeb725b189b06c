-- What an algorithm keeps: for each place one sum to the end of its routine, calls included. The called routines share theirs, since they have the same places and ways.
use Rattle.std.specs.Prelude.{◌≡◌, Bool, List, [], ◌∷◌, ℕ, ◌+◌, ◌≤◌, ◌<◌, max}
use Rattle.routines.specs.Calling.{Flow, Routine, outer, called, end_of, after, In, Live}

-- the sums of called routines and of the outer one, by routine, and by the calls that are open
abbrev pub sum_in : (ℕ → ℕ) → (ℕ → ℕ) → Routine → ℕ → ℕ
sum_in inn out outer v = out v
sum_in inn out (called e) v = inn v

abbrev pub sum_at : (ℕ → ℕ) → (ℕ → ℕ) → List ℕ → ℕ → ℕ
sum_at inn out [] v = out v
sum_at inn out (w ∷ ks) v = inn v

-- the sum at v is right for those after it: at a fork the greater, at a call the routine's and the rest's together
pub data Value (f : Flow) (K : ℕ → Bool) (cycles inn out : ℕ → ℕ) (r : Routine) (v : ℕ) : Type 0 where
  ends : f.kind v ≡ end_of r → sum_in inn out r v ≡ cycles v → Value f K cycles inn out r v
  forks : f.kind v ≡ 1 → sum_in inn out r v ≡ cycles v + max (sum_in inn out r (f.next v)) (sum_in inn out r (f.other v)) → Value f K cycles inn out r v
  calls : f.kind v ≡ 3 → sum_in inn out r v ≡ cycles v + (inn (f.from (f.entry v)) + sum_in inn out r (after f K v)) → Value f K cycles inn out r v

pub record Sums (f : Flow) (K : ℕ → Bool) (cycles inn out : ℕ → ℕ) : Type 0 where
  pub value : (r : Routine) (v : ℕ) → Live f K r → In f K r v → Value f K cycles inn out r v

-- what is left to spend after the routine: the sums where its open calls go on
unfoldable pub rest : (ℕ → ℕ) → (ℕ → ℕ) → List ℕ → ℕ
rest inn out [] = 0
rest inn out (w ∷ ks) = sum_at inn out ks w + rest inn out ks

-- the successor with the greater sum, next before other
pub data Turn (f : Flow) (inn out : ℕ → ℕ) (ks : List ℕ) (v w : ℕ) : Type 0 where
  to_next : w ≡ f.next v → sum_at inn out ks (f.other v) ≤ sum_at inn out ks (f.next v) → Turn f inn out ks v w
  to_other : w ≡ f.other v → sum_at inn out ks (f.next v) < sum_at inn out ks (f.other v) → Turn f inn out ks v w

-- the way by such turns, through the calls: what is written with a stack of where the open calls go on
pub data Route (f : Flow) (K : ℕ → Bool) (inn out : ℕ → ℕ) : List ℕ → ℕ → List ℕ → Type 0 where
  rti : {v : ℕ} → f.kind v ≡ 2 → Route f K inn out [] v (v ∷ [])
  turn : {v w : ℕ} {ks l : List ℕ} → f.kind v ≡ 1 → Turn f inn out ks v w → Route f K inn out ks w l → Route f K inn out ks v (v ∷ l)
  calls : {v : ℕ} {ks l : List ℕ} → f.kind v ≡ 3 → Route f K inn out (after f K v ∷ ks) (f.from (f.entry v)) l → Route f K inn out ks v (v ∷ l)
  ret : {v w : ℕ} {ks l : List ℕ} → f.kind v ≡ 4 → Route f K inn out ks w l → Route f K inn out (w ∷ ks) v (v ∷ l)
