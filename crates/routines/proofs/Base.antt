-- "For handlers without calls .. the old answer stands, joined only by depth 0 with its path": the longest path is document 01's, and the depth is 0.
use mathlib.Core.Path.{◌≡◌, refl, sym, ap, ◌∙◌}
use mathlib.Core.Logic.{◌⊎◌, inl, inr, ⊎_elim}
use mathlib.Core.Bool.{Bool}
use mathlib.Core.List.{List, [], ◌∷◌}
use Prim.Native.Nat.{ℕ, ◌+◌, ◌≤◌, ◌<◌, max}
use native.Mathlib.Omega.{arith}
use native.Mathlib.Decide.{ℕ_discrete}
use Rattle.graph.specs.Graph as graph
use Rattle.graph.specs.Graph.{Graph, GoesOn, Ends, Edge, Reach, here, step, sum, Longest, stop, by_next, by_other, next_only, Bad, Loops, Sound}
use Rattle.graph.proofs.Reach.{reach_snoc}
use Rattle.graph.proofs.Unique.{longest_path, longest_most}
use Rattle.routines.specs.Calling.{Flow, outer, called, after, within, In, Live, handler, call, unknown, IsBad, IsLoop, Path, rti, goes, calls, HandlerPath, opened, deepest, depth, Before, turns, later, FirstOf}
use Rattle.routines.specs.Shape.{Small, Widens}
use Rattle.routines.specs.Answer.{Judged, HasBound}
use Rattle.routines.proofs.Within.{on-goes, end-ends, edge_on, edge-cases, ends-kind, next-on, other-on}
use Rattle.routines.proofs.First.{heads_same}
use Rattle.routines.proofs.Done.{done}
use Rattle.routines.proofs.Exists.{path-head, first-of-handler}
use Rattle.routines.proofs.Same.{reach-to}

-- no call is reachable in the outer routine
abbrev pub NoCalls : Flow → (ℕ → Bool) → Type 0
NoCalls f K = (v : ℕ) → In f K outer v → f.kind v ≡ 3 → ⊥

-- whatever is said to be known after calls
pub no_calls_by : (f : Flow) (K K' : ℕ → Bool) → NoCalls f K → NoCalls f K'
no_calls_by f K K' none v i k = none v (reach-to f K' K outer (λ u p q c. absurd (none u q c)) here here i) k

module _ (f : Flow) (K : ℕ → Bool) (none : NoCalls f K) where
  on-kind : (v : ℕ) → In f K outer v → GoesOn (within f K outer) v → f.kind v ≡ 1
  on-kind v i g = ⊎_elim (λ x. x.0) (λ x. absurd (none v i x.0)) (edge-cases f K outer (g, inl refl))

  to-base : {v : ℕ} {l : List ℕ} → In f K outer v → Path f K [] v l → graph.Path (within f K outer) v l
  to-base {v} i (rti k) = graph.Path.ends (end-ends f K outer v k)
  to-base i (goes k e p) = let d = edge_on f K outer k e in graph.Path.goes d (to-base (reach_snoc i d) p)
  to-base {v} i (calls k p) = absurd (none v i k)

  of-base : {v : ℕ} {l : List ℕ} → In f K outer v → graph.Path (within f K outer) v l → Path f K [] v l
  of-base i (graph.Path.ends e) = rti (ends-kind f K outer e)
  of-base {v} i (graph.Path.goes {w = w} {l = l} e p) = go (edge-cases f K outer e) (of-base (reach_snoc i e) p)
    where
      go : ((f.kind v ≡ 1) × ((w ≡ f.next v) ⊎ (w ≡ f.other v))) ⊎ ((f.kind v ≡ 3) × (w ≡ after f K v)) → Path f K [] w l → Path f K [] v (v ∷ l)
      go (inl (k, n)) q = goes k n q
      go (inr (k, n)) q = absurd (none v i k)

  -- a path that goes on to the next instruction, beside one that goes on to the target or, from the next instruction, is it or behind it
  behind-next : {v w : ℕ} {l t : List ℕ} → In f K outer v → GoesOn (within f K outer) v → graph.Path (within f K outer) ((within f K outer).next v) l → Edge (within f K outer) v w → graph.Path (within f K outer) w t
      → (graph.Path (within f K outer) ((within f K outer).next v) t → (t ≡ l) ⊎ Before f l t) → (v ∷ t ≡ v ∷ l) ⊎ Before f (v ∷ l) (v ∷ t)
  behind-next {v} {w} {l} {t} i k b d p ih = go d.1 (ℕ_discrete ((within f K outer).next v) ((within f K outer).other v))
    where
      lift : (t ≡ l) ⊎ Before f l t → (v ∷ t ≡ v ∷ l) ⊎ Before f (v ∷ l) (v ∷ t)
      lift x = ⊎_elim (λ h. inl (ap (λ (z : List ℕ). v ∷ z) h)) (λ h. inr (later h)) x

      go : (w ≡ (within f K outer).next v) ⊎ (w ≡ (within f K outer).other v) → Dec ((within f K outer).next v ≡ (within f K outer).other v) → (v ∷ t ≡ v ∷ l) ⊎ Before f (v ∷ l) (v ∷ t)
      go (inl n) s = lift (ih (rw n at p))
      go (inr o) (yes s) = lift (ih (rw (o ∙ sym s) at p))
      go (inr o) (no s) =
          let on = on-kind v i k in
          let hl = path-head (of-base (reach_snoc i (k, inl refl)) b) in
          let ht = path-head (of-base (reach_snoc i d) p) in
          inr (rw (hl.1, ht.1) (turns on (next-on f K outer v on) (o ∙ other-on f K outer v on) (λ x. s (x ∙ o))))

  module _ (c : ℕ → ℕ) where
    -- of the paths with the longest one's sum it comes first
    longest-first : {v : ℕ} {l : List ℕ} → In f K outer v → Longest (within f K outer) c v l → (m : List ℕ) → graph.Path (within f K outer) v m → sum c m ≡ sum c l → (m ≡ l) ⊎ Before f l m
    unfolding sum
    longest-first i (stop k) m (graph.Path.ends k') e = inl refl
    longest-first i (stop k) m (graph.Path.goes d p) e = absurd (omega (arith, d.0))
    longest-first i (by_next k b a) m (graph.Path.ends k') e = absurd (omega arith)
    longest-first i (by_other k b a) m (graph.Path.ends k') e = absurd (omega arith)
    longest-first i (by_next k b a) m (graph.Path.goes {l = t} d p) e = behind-next i k (longest_path b) d p (λ q. longest-first (reach_snoc i (k, inl refl)) b t q (omega arith))
    longest-first {v} i (by_other {l = l} k b a) m (graph.Path.goes {w = w} {l = t} d p) e =
        go d.1 (λ q. longest-first (reach_snoc i (k, inr refl)) b t q (omega arith))
      where
        go : (w ≡ (within f K outer).next v) ⊎ (w ≡ (within f K outer).other v) → (graph.Path (within f K outer) ((within f K outer).other v) t → (t ≡ l) ⊎ Before f l t)
            → (v ∷ t ≡ v ∷ l) ⊎ Before f (v ∷ l) (v ∷ t)
        go (inl n) ih = absurd (omega (arith, a t (rw n at p)))
        go (inr o) ih = ⊎_elim (λ h. inl (ap (λ (z : List ℕ). v ∷ z) h)) (λ h. inr (later h)) (ih (rw o at p))

    -- document 01's longest path is the first of the largest
    pub of-longest : {l : List ℕ} → Longest (within f K outer) c f.start l → FirstOf f (HandlerPath f K) (sum c) l
    of-longest b = record {
      in_it = of-base here (longest_path b);
      most = λ m p. longest_most b m (to-base here p);
      first = λ m p e. longest-first here b m (to-base here p) e;
    }

    -- a path from where l goes on does not come before it
    no-turn : {v : ℕ} {l m : List ℕ} {w : ℕ} → Path f K [] w l → Path f K [] w m → Before f (v ∷ l) (v ∷ m) → Before f l m
    no-turn {v} {l} {m} p q b = go b refl refl
      where
        go : {s t : List ℕ} → Before f s t → s ≡ v ∷ l → t ≡ v ∷ m → Before f l m
        go (later {l = s} {m = t} h) e e' =
            let a : s ≡ l = cc in
            let b : t ≡ m = cc in
            rw (← a, ← b) h
        go (turns k a b ne) e e' = let x = path-head p in let y = path-head q in absurd (ne (cc))

    same_head : {v w x : ℕ} {l m : List ℕ} → v ∷ m ≡ v ∷ l → Path f K [] w l → Path f K [] x m → x ≡ w
    same_head {v} {w} {x} {l} {m} h p q = let a = path-head p in let b = path-head q in heads a.0 b.0 a.1 b.1
      where
        heads : (s t : List ℕ) → l ≡ w ∷ s → m ≡ x ∷ t → x ≡ w
        heads s t a b = cc

    same_turn : {v w x : ℕ} {l m : List ℕ} → Before f (v ∷ l) (v ∷ m) → Path f K [] w l → Path f K [] x m → x ≡ f.next v → x ≡ w
    same_turn {v} {w} {x} {l} {m} d p q e = go d refl refl
      where
        go : {s t : List ℕ} → Before f s t → s ≡ v ∷ l → t ≡ v ∷ m → x ≡ w
        go (later {l = s} {m = t} h) g g' =
            let a = path-head p in
            let b = path-head q in
            let i : s ≡ w ∷ a.0 = cc in
            let j : t ≡ x ∷ b.0 = cc in
            sym (heads_same h i j)
        go (turns k n o ne) g g' = let a = path-head p in cc

    -- what the first of the largest leaves behind its first place is the first of the largest from there
    tail-first : {v w : ℕ} {l : List ℕ} → f.kind v ≡ 1 → (w ≡ f.next v) ⊎ (w ≡ f.other v) → Path f K [] w l → FirstOf f (Path f K [] v) (sum c) (v ∷ l) → FirstOf f (Path f K [] w) (sum c) l
    unfolding sum
    tail-first {v} {w} {l} k e p a = record {
      in_it = p;
      most = λ m q. omega (arith, a.most (v ∷ m) (goes k e q));
      first = λ m q s. ⊎_elim (λ h. inl (tails m h)) (λ h. inr (no-turn p q h)) (a.first (v ∷ m) (goes k e q) (ap (λ (x : ℕ). c v + x) s));
    }
      where
        tails : (m : List ℕ) → v ∷ m ≡ v ∷ l → m ≡ l
        tails m h = cc

    of-first : {v : ℕ} {l : List ℕ} → In f K outer v → Path f K [] v l → FirstOf f (Path f K [] v) (sum c) l → Longest (within f K outer) c v l
    unfolding sum
    of-first {v} i (rti k) a = stop (end-ends f K outer v k)
    of-first {v} i (calls k p) a = absurd (none v i k)
    of-first {v} i (goes {w = w} {l = l} k e p) a = go e (ℕ_discrete (f.next v) (f.other v)) (of-first (reach_snoc i (edge_on f K outer k e)) p (tail-first k e p a))
      where
        on : GoesOn (within f K outer) v
        on = on-goes f K outer v k

        n-is : (within f K outer).next v ≡ f.next v
        n-is = next-on f K outer v k

        o_is : (within f K outer).other v ≡ f.other v
        o_is = other-on f K outer v k

        -- by either edge a path is no longer
        most-next : (m : List ℕ) → graph.Path (within f K outer) ((within f K outer).next v) m → Path f K [] (f.next v) m
        most-next m q = rw n-is at (of-base (reach_snoc i (on, inl refl)) q)

        most_other : (m : List ℕ) → graph.Path (within f K outer) ((within f K outer).other v) m → Path f K [] (f.other v) m
        most_other m q = rw o_is at (of-base (reach_snoc i (on, inr refl)) q)

        by_n : w ≡ f.next v → Longest (within f K outer) c w l → Longest (within f K outer) c v (v ∷ l)
        by_n n b = by_next {l = l} on (rw (n-is, ← n) b) (λ m q. longer m (a.most (v ∷ m) (goes k (inr refl) (most_other m q))))
          where
            longer : (m : List ℕ) → sum c (v ∷ m) ≤ sum c (v ∷ l) → sum c m ≤ sum c l
            longer m h = omega arith

        by-o : w ≡ f.other v → (f.next v ≡ f.other v → ⊥) → Longest (within f K outer) c w l → Longest (within f K outer) c v (v ∷ l)
        by-o o ne b =
            by_other {l = l} on (rw (o_is, ← o) b) (λ m q.
            let q' = most-next m q in
            shorter m (a.most (v ∷ m) (goes k (inl refl) q')) (λ s. other_way m q' (a.first (v ∷ m) (goes k (inl refl) q') s)))
          where
            -- l goes on to the target, so a path that goes on to the next instruction is neither l nor behind it
            other_way : (m : List ℕ) → Path f K [] (f.next v) m → (v ∷ m ≡ v ∷ l) ⊎ Before f (v ∷ l) (v ∷ m) → ⊥
            other_way m q (inl h) = ne (same_head h p q ∙ o)
            other_way m q (inr h) = ne (same_turn h p q refl ∙ o)

            shorter : (m : List ℕ) → sum c (v ∷ m) ≤ sum c (v ∷ l) → (sum c (v ∷ m) ≡ sum c (v ∷ l) → ⊥) → sum c m < sum c l
            shorter m h n = omega arith

        go : (w ≡ f.next v) ⊎ (w ≡ f.other v) → Dec (f.next v ≡ f.other v) → Longest (within f K outer) c w l → Longest (within f K outer) c v (v ∷ l)
        go (inl n) d b = by_n n b
        go (inr o) (yes s) b = by_n (o ∙ sym s) b
        go (inr o) (no s) b = by-o o s b

    pub to-longest : {l : List ℕ} → FirstOf f (HandlerPath f K) (sum c) l → Longest (within f K outer) c f.start l
    to-longest a = of-first here a.in_it a

  no-depth : {v : ℕ} {l : List ℕ} → In f K outer v → Path f K [] v l → depth f l ≡ 0
  unfolding deepest opened
  no-depth i (rti k) = rw k refl
  no-depth i (goes {l = l} k e p) = rw k (max-zero (deepest f.kind 0 l) (no-depth (reach_snoc i (edge_on f K outer k e)) p))
    where
      max-zero : (x : ℕ) → x ≡ 0 → max 0 x ≡ 0
      max-zero x h = omega arith
  no-depth {v} i (calls k p) = absurd (none v i k)

  pub depth-zero : {l : List ℕ} → HandlerPath f K l → depth f l ≡ 0
  depth-zero p = no-depth here p

  -- the path that takes next at every fork is one, and no path comes before it
  next-path : {v : ℕ} {l : List ℕ} → graph.Path (next_only (within f K outer)) v l → graph.Path (within f K outer) v l
  unfolding next_only
  next-path (graph.Path.ends k) = graph.Path.ends k
  next-path (graph.Path.goes e p) = graph.Path.goes (e.0, ⊎_elim inl inl e.1) (next-path p)

  next-first : {v : ℕ} {l : List ℕ} → In f K outer v → graph.Path (next_only (within f K outer)) v l → (m : List ℕ) → graph.Path (within f K outer) v m → (m ≡ l) ⊎ Before f l m
  unfolding next_only
  next-first i (graph.Path.ends k) m (graph.Path.ends k') = inl refl
  next-first i (graph.Path.ends k) m (graph.Path.goes d p) = absurd (omega (arith, k, d.0))
  next-first i (graph.Path.goes e b) m (graph.Path.ends k) = absurd (omega (arith, k, e.0))
  next-first {v} i (graph.Path.goes {w = w} {l = l} e b) m (graph.Path.goes {l = t} d p) =
      let n : w ≡ (within f K outer).next v = ⊎_elim (λ x. x) (λ x. x) e.1 in
      behind-next i e.0 (rw n at (next-path b)) d p (λ q. next-first (reach_snoc i (e.0, inl n)) b t (rw n q))

  -- where the depth is 0 on every path, it is the first of the deepest
  pub next-deepest : {l : List ℕ} → graph.Path (next_only (within f K outer)) f.start l → FirstOf f (HandlerPath f K) (depth f) l
  next-deepest b = record { in_it = of-base here (next-path b); most = λ m q. omega (arith, depth-zero q); first = λ m q e. next-first here b m (to-base here q) }

  -- the outer routine is the only one
  pub none-live : {e : ℕ} → Live f K (called e) → ⊥
  none-live (call {r = outer} {v = v} l i k) = none v i k
  none-live (call {r = called d} l i k) = none-live l

  pub bad-base : (v : ℕ) → IsBad f K v → Bad (within f K outer) f.start v
  bad-base v (outer, l, i, x) = (i, x)
  bad-base v (called e, l, i, x) = absurd (none-live l)

  pub loop-base : (v : ℕ) → IsLoop f K v → Loops (within f K outer) f.start v
  loop-base v (outer, l, i, x) = (i, x)
  loop-base v (called e, l, i, x) = absurd (none-live l)

  pub base-bad : (v : ℕ) → Bad (within f K outer) f.start v → IsBad f K v
  base-bad v (i, x) = (outer, handler, i, x)

  pub base-loop : (v : ℕ) → Loops (within f K outer) f.start v → IsLoop f K v
  base-loop v (i, x) = (outer, handler, i, x)

module _ (f : Flow) (K : ℕ → Bool) (none : NoCalls f K) where
  -- whatever K says, it is right, and nothing recurs
  pub judged-any : Judged f K
  judged-any = record {
    no_recursion = λ e x. none-live f unknown (no_calls_by f K unknown none) x.0;
    knows = record { yes_if = λ e l h. absurd (none-live f K none l); only_if = λ e l h. absurd (none-live f K none l) };
  }

  -- the answer N and depth, where no call is reachable: document 01's N and path, and depth 0
  pub old_answer : {cycles : ℕ → ℕ} {N d : ℕ} {path deep : List ℕ} → HasBound f cycles K N d path deep
      → Sound (within f K outer) f.start × Longest (within f K outer) cycles f.start path × (N ≡ sum cycles path) × (d ≡ 0)
  old_answer {cycles} b = (
    record { no_bad = λ v x. b.no_bad v (base-bad f K none v x); no_loop = λ v x. b.no_loop v (base-loop f K none v x) },
    to-longest f K none cycles b.longest,
    b.sum,
    b.depth ∙ depth-zero f K none b.deepest.in_it,
  )

  pub new-answer : {n E : ℕ} → Small f n E → Widens f → {cycles : ℕ → ℕ} {path : List ℕ} → Sound (within f K outer) f.start → Longest (within f K outer) cycles f.start path
      → (deep : List ℕ) × HasBound f cycles K (sum cycles path) 0 path deep
  new-answer small widens {cycles} {path} sound longest =
      let no_bad : (v : ℕ) → IsBad f K v → ⊥ = λ v x. sound.no_bad v (bad-base f K none v x) in
      let no_loop : (v : ℕ) → IsLoop f K v → ⊥ = λ v x. sound.no_loop v (loop-base f K none v x) in
      let d = first-of-handler (done f K small widens judged-any.no_recursion no_bad no_loop) (depth f) in (
        d.0,
        record {
          no_bad = no_bad;
          no_loop = no_loop;
          longest = of-longest f K none cycles longest;
          sum = refl;
          deepest = d.1;
          depth = sym (depth-zero f K none d.1.in_it);
        },
      )
