-- What an algorithm keeps: for each place the greatest depth of calls from it to the end of its routine. The called routines share theirs.
use Rattle.std.specs.Prelude.{◌≡◌, Bool, List, [], ◌∷◌, ℕ, suc, ◌+◌, ◌≤◌, ◌<◌, max, length}
use Rattle.routines.specs.Calling.{Flow, Routine, outer, called, end_of, after, In, Live}

-- the depths of called routines and of the outer one, by routine, and by the calls that are open
abbrev pub depth_in : (ℕ → ℕ) → (ℕ → ℕ) → Routine → ℕ → ℕ
depth_in inn out outer v = out v
depth_in inn out (called e) v = inn v

abbrev pub depth_at : (ℕ → ℕ) → (ℕ → ℕ) → List ℕ → ℕ → ℕ
depth_at inn out [] v = out v
depth_at inn out (w ∷ ks) v = inn v

pub data Value (f : Flow) (K : ℕ → Bool) (inn out : ℕ → ℕ) (r : Routine) (v : ℕ) : Type 0 where
  ends : f.kind v ≡ end_of r → depth_in inn out r v ≡ 0 → Value f K inn out r v
  forks : f.kind v ≡ 1 → depth_in inn out r v ≡ max (depth_in inn out r (f.next v)) (depth_in inn out r (f.other v)) → Value f K inn out r v
  calls : f.kind v ≡ 3 → depth_in inn out r v ≡ max (suc (inn (f.from (f.entry v)))) (depth_in inn out r (after f K v)) → Value f K inn out r v

pub record Depths (f : Flow) (K : ℕ → Bool) (inn out : ℕ → ℕ) : Type 0 where
  pub value : (r : Routine) (v : ℕ) → Live f K r → In f K r v → Value f K inn out r v

-- how many calls can be open yet after the routine returns, where its open calls go on
unfoldable pub pending : (ℕ → ℕ) → (ℕ → ℕ) → List ℕ → ℕ
pending inn out [] = 0
pending inn out (w ∷ ks) = max (length ks + depth_at inn out ks w) (pending inn out ks)

-- how many can be open in all: so many were, or can be from v to the end of the routine, or can be later
abbrev pub total : (ℕ → ℕ) → (ℕ → ℕ) → ℕ → List ℕ → ℕ → ℕ
total inn out reached ks v = max (max reached (pending inn out ks)) (length ks + depth_at inn out ks v)

-- next, where the goal was reached or can be by next or later; else other
pub data Turn (f : Flow) (inn out : ℕ → ℕ) (goal reached : ℕ) (ks : List ℕ) (v w : ℕ) : Type 0 where
  to_next : w ≡ f.next v → goal ≤ total inn out reached ks (f.next v) → Turn f inn out goal reached ks v w
  to_other : w ≡ f.other v → total inn out reached ks (f.next v) < goal → Turn f inn out goal reached ks v w

-- the way to the goal by such turns; so many calls were open already
pub data Route (f : Flow) (K : ℕ → Bool) (inn out : ℕ → ℕ) (goal : ℕ) : ℕ → List ℕ → ℕ → List ℕ → Type 0 where
  rti : {reached v : ℕ} → f.kind v ≡ 2 → Route f K inn out goal reached [] v (v ∷ [])
  turn : {reached v w : ℕ} {ks l : List ℕ} → f.kind v ≡ 1 → Turn f inn out goal reached ks v w → Route f K inn out goal reached ks w l → Route f K inn out goal reached ks v (v ∷ l)
  calls : {reached v : ℕ} {ks l : List ℕ} → f.kind v ≡ 3 → Route f K inn out goal (max reached (suc (length ks))) (after f K v ∷ ks) (f.from (f.entry v)) l
      → Route f K inn out goal reached ks v (v ∷ l)
  ret : {reached v w : ℕ} {ks l : List ℕ} → f.kind v ≡ 4 → Route f K inn out goal reached ks w l → Route f K inn out goal reached (w ∷ ks) v (v ∷ l)
