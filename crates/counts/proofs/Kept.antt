-- A run that keeps the counts walks a counted path: so it spends at most N where it returns, and it does not go on for ever.
use mathlib.Core.Path.{◌≡◌, refl, sym, ap, subst, ◌∙◌}
use mathlib.Core.Logic.{◌⊎◌, inl, inr}
use mathlib.Core.Bool.{Bool, true}
use mathlib.Core.List.{List, [], ◌∷◌, map}
use Prim.Native.Nat.{ℕ, suc, ◌+◌, ◌≤◌, ◌<◌}
use native.Mathlib.Omega.{arith}
use lib.ListN.{length}
use Rattle.graph.specs.Graph.{Reach, here, sum}
use Rattle.graph.proofs.Reach.{reach_snoc}
use Rattle.routines.specs.Calling.{Flow, Routine, outer, called, start_in, end_of, after, within, In, Live, handler, call, IsBad}
use Rattle.routines.specs.Shape.{Small, Widens}
use Rattle.routines.specs.Answer.{Judged}
use Rattle.routines.specs.Runs.{Machine, GoesPast, EndsAt, Spares, SparesStack, Standard, Follows, OneStep}
use Rattle.routines.proofs.Within.{Kind, kind_of, edge_on, edge-call, out-excluded}
use Rattle.routines.proofs.Ending.{Holds, holds_kept, after_known, after_address}
use Rattle.counts.specs.Counts as counts
use Rattle.counts.specs.Counts.{Count, Numbers, used, Fits, Open, Counted}
use Rattle.counts.specs.CountedAnswer.{Settled, HasCountedBound}
use Rattle.counts.specs.CountedRuns.{Watched, itself, Keeps, KeepsCounts, ReturnsAt, EndsSoon}
use Rattle.counts.proofs.Alike.{used_at}
use Rattle.counts.proofs.Lasting.{Lasts, lasts, most_steps_lem, if_fits, dec-fits}

-- the chip's part: a state stands at the address of its place, and calls and RETs are executed exactly at theirs
pub record Tells (M : Machine) (W : Watched M) (f : Flow) (address : ℕ → ℕ) (At : M.State → ℕ → Type 0) : Type 0 where
  pub pc : (s : M.State) (v : ℕ) → At s v → W.pc s ≡ address v
  pub calls : (s : M.State) (x : M.Frame) (v : ℕ) → At s v → GoesPast M s x → f.kind v ≡ 3 → M.Calls s x
  pub calls_not : (s : M.State) (x : M.Frame) (v : ℕ) → At s v → f.kind v ≡ 4 → M.Calls s x → ⊥
  pub backs : (s : M.State) (x : M.Frame) (v : ℕ) → At s v → GoesPast M s x → f.kind v ≡ 4 → W.Backs s x
  pub backs_not : (s : M.State) (x : M.Frame) (v : ℕ) → At s v → (f.kind v ≡ 4 → ⊥) → W.Backs s x → ⊥

-- the calls that are open, by where they go on and their numbers: each is one at a reachable place of the routine outside, which then ends
pub data Within (f : Flow) (K : ℕ → Bool) (address : ℕ → ℕ) (C : List Count) : Routine → List Open → Type 0 where
  none : Within f K address C outer []
  inner : {r : Routine} {ks : List Open} {u : ℕ} {t : Numbers} → Within f K address C r ks → Live f K r → In f K r u → f.kind u ≡ 3
      → (Fits address C t (after f K u) → Lasts f K address C r (after f K u) (used address t (after f K u))) → Within f K address C (called (f.entry u)) (record { place = after f K u; numbers = t } ∷ ks)

module _ {f : Flow} {K : ℕ → Bool} {address : ℕ → ℕ} {C : List Count} where
  -- how many steps are left at most after the routine
  pub later-steps : {r : Routine} {ks : List Open} → Within f K address C r ks → ℕ
  later-steps none = 0
  later-steps (inner {u = u} {t = t} w l i k lasts) = if_fits (dec-fits address C t (after f K u)) (λ h. most_steps_lem (lasts h)) + later-steps w

  steps-some : {r : Routine} {v : ℕ} {u : Numbers} (a : Lasts f K address C r v u) → 0 < most_steps_lem a
  unfolding most_steps_lem
  steps-some (Lasts.ends k) = omega arith
  steps-some (Lasts.goes k a b) = omega arith
  steps-some (Lasts.calls k a b) = omega arith

-- what is taken where P holds
picked : {P : Type 0} (d : P ⊎ (P → ⊥)) (x : P → ℕ) → P → (h : P) × (x h ≡ if_fits d x)
unfolding if_fits
picked (inl h) x p = (h, refl)
picked (inr n) x p = absurd (n p)

-- of a call: how many steps its routine has, and how many come after it
record Entered (f : Flow) (K : ℕ → Bool) (address : ℕ → ℕ) (C : List Count) (r : Routine) (v : ℕ) (u : Numbers) (all : ℕ) : Type 0 where
  first : Lasts f K address C (called (f.entry v)) (f.from (f.entry v)) (used address counts.none (f.from (f.entry v)))
  past : Fits address C u (after f K v) → Lasts f K address C r (after f K v) (used address u (after f K v))
  most : all ≡ suc (most_steps_lem first + if_fits (dec-fits address C u (after f K v)) (λ h. most_steps_lem (past h)))

module _ {f : Flow} {K : ℕ → Bool} {address : ℕ → ℕ} {C : List Count} where
  -- after a step within the routine there are fewer steps left
  last_on : {r : Routine} {v w : ℕ} {u : Numbers} (a : Lasts f K address C r v u) → f.kind v ≡ 1 → (w ≡ f.next v) ⊎ (w ≡ f.other v) → Fits address C u w
      → (b : Lasts f K address C r w (used address u w)) × (most_steps_lem b < most_steps_lem a)
  unfolding most_steps_lem
  last_on {r = outer} (Lasts.ends e) k way fits = absurd (omega (arith, e, k))
  last_on {r = called d} (Lasts.ends e) k way fits = absurd (omega (arith, e, k))
  last_on {v = v} {u = u} (Lasts.goes e a b) k (inl way) fits =
      let x = picked (dec-fits address C u (f.next v)) (λ h. most_steps_lem (a h)) (rw way at fits) in
      rw way (a x.0, omega (arith, x.1))
  last_on {v = v} {u = u} (Lasts.goes e a b) k (inr way) fits =
      let x = picked (dec-fits address C u (f.other v)) (λ h. most_steps_lem (b h)) (rw way at fits) in
      rw way (b x.0, omega (arith, x.1))
  last_on (Lasts.calls e a b) k way fits = absurd (omega (arith, e, k))

  last-in : {r : Routine} {v : ℕ} {u : Numbers} (a : Lasts f K address C r v u) → f.kind v ≡ 3 → Entered f K address C r v u (most_steps_lem a)
  unfolding most_steps_lem
  last-in {r = outer} (Lasts.ends e) k = absurd (omega (arith, e, k))
  last-in {r = called d} (Lasts.ends e) k = absurd (omega (arith, e, k))
  last-in (Lasts.goes e a b) k = absurd (omega (arith, e, k))
  last-in (Lasts.calls e a b) k = record { first = a; past = b; most = refl }

abbrev place_of : Open → ℕ
place_of o = o.place

abbrev numbers_of : Open → Numbers
numbers_of o = o.numbers

module _ (M : Machine) (W : Watched M) (f : Flow) (cycles address : ℕ → ℕ) (At : M.State → ℕ → Type 0) (one_step : OneStep M f cycles address At) (tells : Tells M W f address At)
    {n : ℕ} (standard : Standard f n cycles address) (K : ℕ → Bool) (judged : Judged f K) (no_bad : (v : ℕ) → IsBad f K v → ⊥) (C : List Count) (top : ℕ) where
  -- a place that is reached is not excluded
  allowed : {r : Routine} {v : ℕ} → Live f K r → Reach (within f K r) (start_in f r) v → (1 ≤ f.kind v) × (f.kind v ≤ 4)
  allowed {r} {v} live i = go r live i (kind_of f v (end_of r))
    where
      go : (r : Routine) → Live f K r → In f K r v → Kind f v (end_of r) → (1 ≤ f.kind v) × (f.kind v ≤ 4)
      go r live i (Kind.on k) = (omega arith, omega arith)
      go r live i (Kind.call k) = (omega arith, omega arith)
      go outer live i (Kind.end k) = (omega arith, omega arith)
      go (called e) live i (Kind.end k) = (omega arith, omega arith)
      go r live i (Kind.out a b c) = absurd (no_bad v (r, live, i, out-excluded f K r v a b c))

  -- where a state is: at a place of a routine, with these numbers and these calls open, their addresses on the stack
  pub record Stands (s : M.State) (r : Routine) (ks : List Open) (v : ℕ) (u : Numbers) : Type 0 where
    pub at : At s v
    pub outside : Within f K address C r ks
    pub live : Live f K r
    pub reached : Reach (within f K r) (start_in f r) v
    pub lasts : Lasts f K address C r v u
    pub stack : Holds address (M.level s) (M.sp s) top (map place_of ks)

  abbrev pub steps-left : {s : M.State} {r : Routine} {ks : List Open} {v : ℕ} {u : Numbers} → Stands s r ks v u → ℕ
  steps-left h = most_steps_lem h.lasts + later-steps h.outside

  -- the next state: it stands somewhere, keeps the counts, goes on along a counted path, and has fewer steps left
  pub record Next (s' : M.State) (xs : List M.Frame) (ks : List Open) (v : ℕ) (u : Numbers) (left : ℕ) : Type 0 where
    pub routine : Routine
    pub calls : List Open
    pub place : ℕ
    pub numbers : Numbers
    pub stands : Stands s' routine calls place numbers
    pub keeps : Keeps M W C (map numbers_of calls) numbers s' xs
    pub extends : (l : List ℕ) → Counted f K address C calls numbers place l → Counted f K address C ks u v (v ∷ l)
    pub fewer : steps-left stands < left

  -- the row that is next is that of the place
  numbers-at : (u : Numbers) (s : M.State) (w : ℕ) → At s w → used itself u (W.pc s) ≡ used address u w
  unfolding used
  numbers-at u s w at = ap (λ (x : ℕ). used_at x u) (tells.pc s w at)

  fits-at : (u : Numbers) (s : M.State) (w : ℕ) → At s w → Fits itself C u (W.pc s) → Fits address C u w
  fits-at u s w at fits c m e = fits c m (e ∙ sym (tells.pc s w at))

  keeps-with : {us : List Numbers} {t t' : Numbers} {s : M.State} {xs : List M.Frame} → t ≡ t' → Keeps M W C us t s xs → Keeps M W C us t' s xs
  keeps-with {us} {s = s} {xs = xs} e k = subst (λ z. Keeps M W C us z s xs) e k

  -- what keeping the counts says of a step, by what it executes
  kept_on : {us : List Numbers} {u : Numbers} {s : M.State} {x : M.Frame} {xs : List M.Frame} → Keeps M W C us u s (x ∷ xs) → (M.Ends s x → ⊥) → (M.Calls s x → ⊥) → (W.Backs s x → ⊥)
      → Fits itself C u (W.pc (M.step s x)) × Keeps M W C us (used itself u (W.pc (M.step s x))) (M.step s x) xs
  kept_on (Keeps.ends e) a b c = absurd (a e)
  kept_on (Keeps.goes_on p q fits k) a b c = (fits, k)
  kept_on (Keeps.calls e k) a b c = absurd (b e)
  kept_on (Keeps.backs e fits k) a b c = absurd (c e)

  kept_in : {us : List Numbers} {u : Numbers} {s : M.State} {x : M.Frame} {xs : List M.Frame} → Keeps M W C us u s (x ∷ xs) → (M.Ends s x → ⊥) → M.Calls s x → (W.Backs s x → ⊥)
      → Keeps M W C (u ∷ us) (used itself counts.none (W.pc (M.step s x))) (M.step s x) xs
  kept_in (Keeps.ends e) a b c = absurd (a e)
  kept_in (Keeps.goes_on p q fits k) a b c = absurd (p b)
  kept_in (Keeps.calls e k) a b c = k
  kept_in (Keeps.backs e fits k) a b c = absurd (c e)

  kept_back : {us : List Numbers} {u t : Numbers} {s : M.State} {x : M.Frame} {xs : List M.Frame} → Keeps M W C (t ∷ us) u s (x ∷ xs) → (M.Ends s x → ⊥) → (M.Calls s x → ⊥) → W.Backs s x
      → Fits itself C t (W.pc (M.step s x)) × Keeps M W C us (used itself t (W.pc (M.step s x))) (M.step s x) xs
  kept_back (Keeps.ends e) a b c = absurd (a e)
  kept_back (Keeps.goes_on p q fits k) a b c = absurd (q c)
  kept_back (Keeps.calls e k) a b c = absurd (b e)
  kept_back (Keeps.backs e fits k) a b c = (fits, k)

  module _ (s : M.State) (x : M.Frame) (xs : List M.Frame) where
    next-on : {r : Routine} {ks : List Open} {v w : ℕ} {u : Numbers} (h : Stands s r ks v u) → Keeps M W C (map numbers_of ks) u s (x ∷ xs) → f.kind v ≡ 1 → (w ≡ f.next v) ⊎ (w ≡ f.other v)
        → GoesPast M s x → (M.Calls s x → ⊥) → At (M.step s x) w → M.sp (M.step s x) ≡ M.sp s → Spares M top s x → Next (M.step s x) xs ks v u (steps-left h)
    next-on {r} {ks} {v} {w} {u} h keeps k e on calls at same spares =
        let y = kept_on keeps on.0 calls (tells.backs_not s x v h.at (λ z. omega (arith, z, k))) in
        let fits = fits-at u (M.step s x) w at y.0 in
        let last = last_on h.lasts k e fits in
        record {
          routine = r;
          calls = ks;
          place = w;
          numbers = used address u w;
          stands = record {
            at = at;
            outside = h.outside;
            live = h.live;
            reached = reach_snoc h.reached (edge_on f K r k e);
            lasts = last.0;
            stack = rw same (holds_kept address (M.level s) (M.level (M.step s x)) (M.sp s) top (map place_of ks) spares h.stack);
          };
          keeps = keeps-with (numbers-at u (M.step s x) w at) y.1;
          extends = λ l p. Counted.goes k e fits p;
          fewer = omega (arith, last.1);
        }

    next-in : {r : Routine} {ks : List Open} {v : ℕ} {u : Numbers} (h : Stands s r ks v u) → Keeps M W C (map numbers_of ks) u s (x ∷ xs) → f.kind v ≡ 3 → GoesPast M s x
        → At (M.step s x) (f.from (f.entry v)) → suc (M.sp (M.step s x)) ≡ M.sp s → M.level (M.step s x) (M.sp (M.step s x)) ≡ address (f.next v)
        → ((i : ℕ) → M.sp s ≤ i → M.level (M.step s x) i ≡ M.level s i) → Next (M.step s x) xs ks v u (steps-left h)
    unfolding Holds later-steps
    next-in {r} {ks} {v} {u} h keeps k on at lower stored kept =
        let y = kept_in keeps on.0 (tells.calls s x v h.at on k) (tells.backs_not s x v h.at (λ z. omega (arith, z, k))) in
        let last = last-in h.lasts k in
        let first = f.from (f.entry v) in
        record {
          routine = called (f.entry v);
          calls = record { place = after f K v; numbers = u } ∷ ks;
          place = first;
          numbers = used address counts.none first;
          stands = record {
            at = at;
            outside = inner h.outside h.live h.reached k last.past;
            live = call h.live h.reached k;
            reached = here;
            lasts = last.first;
            stack = (after_address K standard v k ∙ sym stored, rw lower (holds_kept address (M.level s) (M.level (M.step s x)) (M.sp s) top (map place_of ks) (λ j l m. kept j l) h.stack));
          };
          keeps = keeps-with (numbers-at counts.none (M.step s x) first at) y;
          extends = λ l p. Counted.calls k p;
          fewer = omega (arith, last.most);
        }

    next-back : {r : Routine} {ks : List Open} {v : ℕ} {u : Numbers} (h : Stands s r ks v u) → Keeps M W C (map numbers_of ks) u s (x ∷ xs) → f.kind v ≡ 4 → GoesPast M s x → (M.Calls s x → ⊥)
        → ((w : ℕ) → address w ≡ M.level s (M.sp s) → (f.known w ≡ true → f.known v ≡ true) → At (M.step s x) w) → M.sp (M.step s x) ≡ suc (M.sp s) → Spares M top s x
        → Next (M.step s x) xs ks v u (steps-left h)
    unfolding Holds later-steps
    next-back {v = v} {u = u} h keeps k on calls at higher spares = go h.outside h.live h.reached h.stack keeps h.lasts
      where
        go : {r : Routine} {ks : List Open} (outside : Within f K address C r ks) → Live f K r → Reach (within f K r) (start_in f r) v → Holds address (M.level s) (M.sp s) top (map place_of ks)
            → Keeps M W C (map numbers_of ks) u s (x ∷ xs) → (lasts : Lasts f K address C r v u) → Next (M.step s x) xs ks v u (most_steps_lem lasts + later-steps outside)
        go none live i stack keeps lasts = absurd (no_bad v (outer, handler, i, out-excluded f K outer v (λ z. omega arith) (λ z. omega arith) (λ z. omega arith)))
        go (inner {r = r'} {ks = ks'} {u = c} {t = t} n' live' j kc past) live i stack keeps lasts =
            let there = at (after f K c) stack.0 (λ z. judged.knows.only_if (f.entry c) live (after_known K standard c kc z) v i k) in
            let y = kept_back keeps on.0 calls (tells.backs s x v h.at on k) in
            let fits = fits-at t (M.step s x) (after f K c) there y.0 in
            let last = picked (dec-fits address C t (after f K c)) (λ z. most_steps_lem (past z)) fits in
            record {
              routine = r';
              calls = ks';
              place = after f K c;
              numbers = used address t (after f K c);
              stands = record {
                at = there;
                outside = n';
                live = live';
                reached = reach_snoc j (edge-call f K r' kc);
                lasts = past last.0;
                stack = rw higher (holds_kept address (M.level s) (M.level (M.step s x)) (suc (M.sp s)) top (map place_of ks') (λ l a b. spares l (omega arith) b) stack.1);
              };
              keeps = keeps-with (numbers-at t (M.step s x) (after f K c) there) y.1;
              extends = λ l p. Counted.ret k fits p;
              fewer = omega (arith, last.1, steps-some lasts);
            }

  -- RTI is not excluded in the outer routine only, where no call is open
  record Outermost (s : M.State) (ks : List Open) : Type 0 where
    none_open : ks ≡ []
    level : M.sp s ≡ top

  outermost : {s : M.State} {r : Routine} {ks : List Open} {v : ℕ} {u : Numbers} → Stands s r ks v u → f.kind v ≡ 2 → Outermost s ks
  unfolding Holds
  outermost {s} {v = v} h k = go h.outside h.live h.reached h.stack
    where
      go : {r : Routine} {ks : List Open} → Within f K address C r ks → Live f K r → Reach (within f K r) (start_in f r) v → Holds address (M.level s) (M.sp s) top (map place_of ks) → Outermost s ks
      go none live i stack = record { none_open = refl; level = stack }
      go (inner {u = c} n live' j kc past) live i stack =
          absurd (no_bad v (called (f.entry c), live, i, out-excluded f K (called (f.entry c)) v (λ z. omega arith) (λ z. omega arith) (λ z. omega arith)))

  -- a step that does not end the handler
  next : (s : M.State) (x : M.Frame) (xs : List M.Frame) {r : Routine} {ks : List Open} {v : ℕ} {u : Numbers} (h : Stands s r ks v u) → Keeps M W C (map numbers_of ks) u s (x ∷ xs)
      → ((M.Calls s x → ⊥) → Spares M top s x) → (M.Ends s x → ⊥) → Follows M f cycles address At s x v → Next (M.step s x) xs ks v u (steps-left h) × (M.spends s x ≡ cycles v) × GoesPast M s x
  next s x xs h keeps spares no_end (Follows.ends e rti c) = absurd (no_end e)
  next s x xs h keeps spares no_end (Follows.goes k e on calls c at same) = (next-on s x xs h keeps k e on calls at same (spares calls), c, on)
  next s x xs h keeps spares no_end (Follows.calls k on c at lower stored kept) = (next-in s x xs h keeps k on at lower stored kept, c, on)
  next s x xs h keeps spares no_end (Follows.returns k on calls c at higher) = (next-back s x xs h keeps k on calls at higher (spares calls), c, on)

  ends-or-not : {s : M.State} {x : M.Frame} {v : ℕ} → Follows M f cycles address At s x v → M.Ends s x ⊎ (M.Ends s x → ⊥)
  ends-or-not (Follows.ends e rti c) = inl e
  ends-or-not (Follows.goes k e on calls c at same) = inr on.0
  ends-or-not (Follows.calls k on c at lower stored kept) = inr on.0
  ends-or-not (Follows.returns k on calls c at higher) = inr on.0

  return-at : {s : M.State} {x : M.Frame} {v : ℕ} → M.Ends s x → Follows M f cycles address At s x v → (M.Returns s x → f.kind v ≡ 2) × (M.spends s x ≤ cycles v)
  return-at e (Follows.ends e' rti c) = (rti, c)
  return-at e (Follows.goes k way on calls c at same) = absurd (on.0 e)
  return-at e (Follows.calls k on c at lower stored kept) = absurd (on.0 e)
  return-at e (Follows.returns k on calls c at higher) = absurd (on.0 e)

  -- "A run that returns, and has kept the counts up to then, has spent at most N.": of what was spent before, and is spent from here on
  returns_within : (frames : List M.Frame) (s : M.State) {r : Routine} {ks : List Open} {v : ℕ} {u : Numbers} {N : ℕ} (before : ℕ) → Stands s r ks v u → Keeps M W C (map numbers_of ks) u s frames
      → SparesStack M top s frames → ((l : List ℕ) → Counted f K address C ks u v l → before + sum cycles l ≤ N) → {k c : ℕ} → ReturnsAt M s frames k c → before + c ≤ N
  unfolding SparesStack sum
  returns_within [] s before h keeps spares most r = elim r [ ]
  returns_within (x ∷ xs) s {ks = ks} {v = v} {u = u} before h keeps spares most (ReturnsAt.now e ret) =
      let a = allowed h.live h.reached in
      let y = return-at e (one_step s x v h.at a.0 a.1) in
      let o = outermost h (y.0 ret) in
      let z = most (v ∷ []) (subst (λ t. Counted f K address C t u v (v ∷ [])) (sym o.none_open) (Counted.rti (y.0 ret))) in
      omega (arith, z, y.1)
  returns_within (x ∷ xs) s {v = v} {N = N} before h keeps spares most (ReturnsAt.later on q) =
      let a = allowed h.live h.reached in
      let p = spares on.0 in
      let y = next s x xs h keeps p.0 on.0 (one_step s x v h.at a.0 a.1) in
      let g = y.0 in
      let z = returns_within xs (M.step s x) {N = N} (before + cycles v) g.stands g.keeps p.1 (λ l t. omega (arith, most (v ∷ l) (g.extends l t))) q in
      omega (arith, z, y.1)

  -- "No run keeps the counts for ever.": with as many frames as steps are left the run ends
  ends-within : (frames : List M.Frame) (s : M.State) {r : Routine} {ks : List Open} {v : ℕ} {u : Numbers} (h : Stands s r ks v u) → Keeps M W C (map numbers_of ks) u s frames
      → SparesStack M top s frames → steps-left h ≤ length frames → EndsSoon M top s frames (steps-left h)
  unfolding SparesStack
  ends-within [] s h keeps spares enough = absurd (omega (arith, enough, steps-some h.lasts))
  ends-within (x ∷ xs) s {ks = ks} {v = v} {u = u} h keeps spares enough = go (ends-or-not follows) (λ no_end. next s x xs h keeps (spares no_end).0 no_end follows) (λ g no_end e. ends-within xs (M.step s x) g.stands g.keeps (spares no_end).1 e)
    where
      follows : Follows M f cycles address At s x v
      follows = let a = allowed h.live h.reached in one_step s x v h.at a.0 a.1

      go : M.Ends s x ⊎ (M.Ends s x → ⊥) → ((M.Ends s x → ⊥) → Next (M.step s x) xs ks v u (steps-left h) × (M.spends s x ≡ cycles v) × GoesPast M s x)
          → ((g : Next (M.step s x) xs ks v u (steps-left h)) → (M.Ends s x → ⊥) → steps-left g.stands ≤ length xs → EndsSoon M top (M.step s x) xs (steps-left g.stands)) → EndsSoon M top s (x ∷ xs) (steps-left h)
      go (inl e) on rest = record { steps = 1; spent = M.spends s x; ends = EndsAt.now e (λ t. (outermost h ((return-at e follows).0 t)).level); soon = omega (arith, steps-some h.lasts) }
      go (inr no_end) on rest =
          let y = on no_end in
          let g = y.0 in
          let q = rest g no_end (omega (arith, g.fewer, enough)) in
          record { steps = suc q.steps; spent = M.spends s x + q.spent; ends = EndsAt.later y.2 q.ends; soon = omega (arith, q.soon, g.fewer) }

-- what N promises: of a state that stands at the handler's start, with the stack spared
module _ (M : Machine) (W : Watched M) (f : Flow) (cycles address : ℕ → ℕ) (At : M.State → ℕ → Type 0) (one_step : OneStep M f cycles address At) (tells : Tells M W f address At)
    {n E : ℕ} (small : Small f n E) (widens : Widens f) (standard : Standard f n cycles address) {K : ℕ → Bool} (judged : Judged f K) {C : List Count} (settled : Settled f K address C) where
  at-start : (s : M.State) → At s f.start → Stands M W f cycles address At one_step tells standard K judged settled.no_bad C (M.sp s) s outer [] f.start (used address counts.none f.start)
  unfolding Holds
  at-start s at = record { at = at; outside = none; live = handler; reached = here; lasts = lasts f K address C small widens judged.no_recursion settled; stack = refl }

  start-keeps : (s : M.State) (frames : List M.Frame) → At s f.start → KeepsCounts M W C s frames → Keeps M W C [] (used address counts.none f.start) s frames
  start-keeps s frames at keeps =
      keeps-with M W f cycles address At one_step tells standard K judged settled.no_bad C (M.sp s)
      (numbers-at M W f cycles address At one_step tells standard K judged settled.no_bad C (M.sp s) counts.none s f.start at) keeps

  pub kept-most : {N d : ℕ} {path deep : List ℕ} → HasCountedBound f cycles K address C N d path deep → (s : M.State) → At s f.start → (frames : List M.Frame) → SparesStack M (M.sp s) s frames
      → KeepsCounts M W C s frames → {k c : ℕ} → ReturnsAt M s frames k c → c ≤ N
  kept-most {N} b s at frames spares keeps q =
      let z = returns_within M W f cycles address At one_step tells standard K judged settled.no_bad C (M.sp s) frames s {N = N} 0 (at-start s at) (start-keeps s frames at keeps) spares
      (λ l p. omega (arith, b.sum, b.longest.most l p)) q in
      omega (arith, z)

  -- as many steps as image and counts give
  pub kept-steps : ℕ
  kept-steps = most_steps_lem (lasts f K address C small widens judged.no_recursion settled)

  pub kept-ends : (s : M.State) → At s f.start → (frames : List M.Frame) → SparesStack M (M.sp s) s frames → KeepsCounts M W C s frames → kept-steps ≤ length frames
      → EndsSoon M (M.sp s) s frames kept-steps
  unfolding kept-steps later-steps at-start Holds
  kept-ends s at frames spares keeps enough =
      let h = at-start s at in
      let q = ends-within M W f cycles address At one_step tells standard K judged settled.no_bad C (M.sp s) frames s h (start-keeps s frames at keeps) spares (omega (arith, enough)) in
      record { steps = q.steps; spent = q.spent; ends = q.ends; soon = omega (arith, q.soon) }
