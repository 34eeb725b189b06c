-- Counted paths of a flow are the paths of the flow that is unrolled, node by node; so the first of the largest there is the first of the largest among the counted ones.
use mathlib.Core.Path.{◌≡◌, refl, sym, ap, ap₂, subst, ◌∙◌}
use mathlib.Core.Logic.{◌⊎◌, inl, inr, ⊎_elim}
use mathlib.Core.Bool.{Bool}
use mathlib.Core.List.{List, [], ◌∷◌, map}
use Prim.Native.Nat.{ℕ, suc}
use native.Mathlib.Omega.{arith}
use lib.ListN.{length}
use Rattle.routines.specs.Calling.{Flow, after, Path, HandlerPath, opened, deepest, Before, FirstOf}
use Rattle.routines.specs.Answer.{Found, HasBound, PathAnswer}
use Rattle.routines.proofs.Paired.{Both, none, pair, Same, both_sum, path_answer_to}
use Rattle.counts.specs.Counts as counts
use Rattle.counts.specs.Counts.{Count, Numbers, used, Fits, Open, Counted, CountedPath}
use Rattle.counts.specs.CountedAnswer.{HasCountedBound}
use Rattle.counts.specs.Unrolled.{Closed, Leads, Turns, Unrolls}

-- each has P
pub data All {A : Type 0} (P : A → Type 0) : List A → Type 0 where
  nil : All P []
  adds : {x : A} {l : List A} → P x → All P l → All P (x ∷ l)

not_empty : {x : ℕ} {l : List ℕ} → [] ≡ x ∷ l → ⊥
not_empty {l = l} h = let e : 0 ≡ suc (length l) = ap length h in omega arith

module _ {f : Flow} {K : ℕ → Bool} {address : ℕ → ℕ} {C : List Count} {Good : ℕ → Numbers → Type 0} {node : ℕ → Numbers → ℕ} {M : ℕ → Type 0} {g : Flow} {L : ℕ → Bool}
    (closed : Closed f K address C Good) (a : Unrolls f K address C Good node M g L) where
  -- the node x is of the place v
  pub record Stands (x v : ℕ) : Type 0 where
    pub numbers : Numbers
    pub is : x ≡ node v numbers
    pub good : Good v numbers
    pub ends : M (node v numbers)

  abbrev pub at : Numbers → ℕ → ℕ
  at u w = node w (used address u w)

  abbrev node_of : Open → ℕ
  node_of o = at o.numbers o.place

  -- an open call may go on where its step fits; it goes on at a node from which its routine's end is reached
  abbrev MayReturn : Open → Type 0
  MayReturn o = Fits address C o.numbers o.place → Good o.place (used address o.numbers o.place)

  pub record Returns (o : Open) : Type 0 where
    pub fits : Fits address C o.numbers o.place
    pub good : Good o.place (used address o.numbers o.place)
    pub ends : M (node_of o)

  -- the nodes of a counted path
  pub record Walked (ks : List Open) (u : Numbers) (v : ℕ) (l : List ℕ) : Type 0 where
    pub nodes : List ℕ
    pub path : Path g L (map node_of ks) (node v u) nodes
    pub stands : Both Stands nodes l
    pub ends : M (node v u)
    pub returns : All Returns ks

  pub stands_by : {x v : ℕ} {u : Numbers} → x ≡ node v u → Good v u → M (node v u) → Stands x v
  stands_by {u = u} e good m = record { numbers = u; is = e; good = good; ends = m }

  stands_at : {v : ℕ} {u : Numbers} → Good v u → M (node v u) → Stands (node v u) v
  stands_at good m = stands_by refl good m

  -- a step that fits leads to one of the node's two
  led : {v w : ℕ} {u : Numbers} → (w ≡ f.next v) ⊎ (w ≡ f.other v) → Fits address C u w → M (at u w) → {y z : ℕ} → Turns f address C node M v u y z → (at u w ≡ y) ⊎ (at u w ≡ z)
  led (inl e) fits m (Turns.both n o) = inl (rw e (sym n.is))
  led (inr e) fits m (Turns.both n o) = inr (rw e (sym o.is))
  led (inl e) fits m (Turns.only_next n dead same) = inl (rw e (sym n.is))
  led (inr e) fits m (Turns.only_next n dead same) = absurd (dead (rw e at fits) (rw e at m))
  led (inl e) fits m (Turns.only_other n dead same) = absurd (dead (rw e at fits) (rw e at m))
  led (inr e) fits m (Turns.only_other n dead same) = inl (rw e (sym n.is))

  -- a call's path, where that of its routine and of what comes after is had
  call-walk : {ks : List Open} {u : Numbers} {v : ℕ} {l : List ℕ} → f.kind v ≡ 3 → Good v u
      → (x : Walked (record { place = after f K v; numbers = u } ∷ ks) (used address counts.none (f.from (f.entry v))) (f.from (f.entry v)) l)
      → All Returns (record { place = after f K v; numbers = u } ∷ ks) → Walked ks u v (v ∷ l)
  call-walk {ks = ks} {u = u} {v = v} k good x (All.adds r rest) =
      let m = a.by_call good k x.ends r.fits r.ends in
      let n = a.enters good m k in
      record {
        nodes = node v u ∷ x.nodes;
        path = Path.calls {ks = map node_of ks} {l = x.nodes} (a.kind good m ∙ k) (rw (n.first, n.past.is) x.path);
        stands = pair (stands_at good m) x.stands;
        ends = m;
        returns = rest;
      }

  pub walk : {ks : List Open} {u : Numbers} {v : ℕ} {l : List ℕ} → Counted f K address C ks u v l → Good v u → All MayReturn ks → Walked ks u v l
  walk {u = u} {v = v} (Counted.rti k) good may =
      let m = a.ends good (inl k) in
      record { nodes = node v u ∷ []; path = Path.rti (a.kind good m ∙ k); stands = pair (stands_at good m) none; ends = m; returns = All.nil }
  walk {u = u} {v = v} (Counted.goes k e fits p) good may =
      let x = walk p (closed.step good k e fits) may in
      let m = a.by_step good k e fits x.ends in
      record {
        nodes = node v u ∷ x.nodes;
        path = Path.goes (a.kind good m ∙ k) (led e fits x.ends (a.turns good m k)) x.path;
        stands = pair (stands_at good m) x.stands;
        ends = m;
        returns = x.returns;
      }
  walk (Counted.calls k p) good may = let x = walk p (closed.into good k) (All.adds (closed.past good k) may) in call-walk k good x x.returns
  walk {u = u} {v = v} (Counted.ret k fits p) good (All.adds may rest) =
      let x = walk p (may fits) rest in
      let m = a.ends good (inr k) in
      record {
        nodes = node v u ∷ x.nodes;
        path = Path.ret (a.kind good m ∙ k) x.path;
        stands = pair (stands_at good m) x.stands;
        ends = m;
        returns = All.adds (record { fits = fits; good = may fits; ends = x.ends }) x.returns;
      }

  -- the counted path that a path of nodes is
  pub record Names (ks : List Open) (u : Numbers) (v : ℕ) (nodes : List ℕ) : Type 0 where
    pub places : List ℕ
    pub path : Counted f K address C ks u v places
    pub stands : Both Stands nodes places

  pub kind_at : {v x k : ℕ} {u : Numbers} → Good v u → M (node v u) → x ≡ node v u → g.kind x ≡ k → f.kind v ≡ k
  kind_at good m e h = sym (a.kind good m) ∙ ap g.kind (sym e) ∙ h

  -- where one of a node's two leads
  pub record Step (v : ℕ) (u : Numbers) (y : ℕ) : Type 0 where
    pub to : ℕ
    pub way : (to ≡ f.next v) ⊎ (to ≡ f.other v)
    pub leads : Leads address C node M u to y

  pub stepped : {v y z : ℕ} {u : Numbers} → Turns f address C node M v u y z → (x : ℕ) → (x ≡ y) ⊎ (x ≡ z) → Step v u x
  stepped {v} (Turns.both n o) x (inl e) = record { to = f.next v; way = inl refl; leads = rw e n }
  stepped {v} (Turns.both n o) x (inr e) = record { to = f.other v; way = inr refl; leads = rw e o }
  stepped {v} (Turns.only_next n dead same) x (inl e) = record { to = f.next v; way = inl refl; leads = rw e n }
  stepped {v} (Turns.only_next n dead same) x (inr e) = record { to = f.next v; way = inl refl; leads = rw (e ∙ same) n }
  stepped {v} (Turns.only_other n dead same) x (inl e) = record { to = f.other v; way = inr refl; leads = rw e n }
  stepped {v} (Turns.only_other n dead same) x (inr e) = record { to = f.other v; way = inr refl; leads = rw (e ∙ same) n }

  pub names : {hs : List ℕ} {x v : ℕ} {u : Numbers} {nodes : List ℕ} → Path g L hs x nodes → (ks : List Open) → hs ≡ map node_of ks → x ≡ node v u → Good v u → M (node v u) → All Returns ks → Names ks u v nodes
  names {v = v} {u = u} (Path.rti k) [] h e good m r =
      record { places = v ∷ []; path = Counted.rti (kind_at good m e k); stands = pair (stands_by e good m) none }
  names (Path.rti k) (o ∷ ks) h e good m r = absurd (not_empty h)
  names {v = v} {u = u} (Path.goes {w = w} k way p) ks h e good m r =
      let k' = kind_at good m e k in
      let s = stepped (a.turns good m k') w (rw e at way) in
      let fits = s.leads.fits in
      let x = names p ks h s.leads.is (closed.step good k' s.way fits) s.leads.ends r in
      record { places = v ∷ x.places; path = Counted.goes k' s.way fits x.path; stands = pair (stands_by e good m) x.stands }
  names {v = v} {u = u} (Path.calls k p) ks h e good m r =
      let k' = kind_at good m e k in
      let n = a.enters good m k' in
      let past = n.past in
      let fits = past.fits in
      let back : Returns (record { place = after f K v; numbers = u }) = record { fits = fits; good = closed.past good k' fits; ends = past.ends } in
      let x = names p (record { place = after f K v; numbers = u } ∷ ks) (ap₂ (λ (y : ℕ) (t : List ℕ). y ∷ t) (ap (after g L) e ∙ past.is) h) (ap (λ (y : ℕ). g.from (g.entry y)) e ∙ n.first)
      (closed.into good k') n.first_ends (All.adds back r) in
      record { places = v ∷ x.places; path = Counted.calls k' x.path; stands = pair (stands_by e good m) x.stands }
  names (Path.ret k p) [] h e good m r = absurd (not_empty (sym h))
  names {v = v} {u = u} (Path.ret {w = w} k p) (o ∷ ks) h e good m (All.adds r rest) =
      let x = names p ks (cc) (cc) r.good r.ends rest in
      record { places = v ∷ x.places; path = Counted.ret (kind_at good m e k) r.fits x.path; stands = pair (stands_by e good m) x.stands }

  -- the handler's own paths, both ways
  pub walk-handler : {l : List ℕ} → CountedPath f K address C l → (nodes : List ℕ) × HandlerPath g L nodes × Both Stands nodes l
  walk-handler p = let x = walk p closed.start All.nil in (x.nodes, subst (λ s. Path g L [] s x.nodes) (sym a.start) x.path, x.stands)

  pub name-handler : {nodes : List ℕ} → M g.start → HandlerPath g L nodes → (l : List ℕ) × CountedPath f K address C l × Both Stands nodes l
  name-handler m p = let x = names p [] refl a.start closed.start (rw a.start at m) All.nil in (x.places, x.path, x.stands)

  -- without a way to the end there is no counted path
  pub no-counted : (M g.start → ⊥) → (l : List ℕ) → CountedPath f K address C l → ⊥
  no-counted no_end l p = no_end (rw a.start (walk p closed.start All.nil).ends)

  pub stands_one : {x v w : ℕ} → Stands x v → Stands x w → v ≡ w
  stands_one s t = a.one s.good t.good (sym s.is ∙ t.is)

  both_one : {l m k : List ℕ} → Both Stands l m → Both Stands l k → m ≡ k
  both_one none none = refl
  both_one (pair s b) (pair t c) = ap₂ (λ (x : ℕ) (y : List ℕ). x ∷ y) (stands_one s t) (both_one b c)

  pub stands-kind : {x v : ℕ} → Stands x v → g.kind x ≡ f.kind v
  stands-kind s = ap g.kind s.is ∙ a.kind s.good s.ends

  depth-to : (n : ℕ) {l m : List ℕ} → Both Stands l m → deepest g.kind n l ≡ deepest f.kind n m
  unfolding deepest
  depth-to n none = refl
  depth-to n (pair {w = w} s b) = rw (stands-kind s, depth-to (opened (f.kind w) n) b) refl

  -- where two paths of nodes first differ, so do the places, next before other
  turn-to : {v : ℕ} {u : Numbers} {y z : ℕ} → Turns f address C node M v u y z → (y ≡ z → ⊥) → {w x : ℕ} → Stands y w → Stands z x → Good (f.next v) (used address u (f.next v)) → Good (f.other v) (used address u (f.other v))
      → (w ≡ f.next v) × (x ≡ f.other v) × (w ≡ x → ⊥)
  turn-to {v} {u} {y} {z} (Turns.both n o) ne {w} {x} s t good good' =
      let e : w ≡ f.next v = a.one s.good good (sym s.is ∙ n.is) in
      let e' : x ≡ f.other v = a.one t.good good' (sym t.is ∙ o.is) in
      (e, e', λ h. ne (n.is ∙ ap (at u) (sym e ∙ h ∙ e') ∙ sym o.is))
  turn-to (Turns.only_next n dead same) ne s t good good' = absurd (ne (sym same))
  turn-to (Turns.only_other n dead same) ne s t good good' = absurd (ne (sym same))

  fits-of : {v : ℕ} {u : Numbers} {y z : ℕ} → Turns f address C node M v u y z → (y ≡ z → ⊥) → Fits address C u (f.next v) × Fits address C u (f.other v)
  fits-of (Turns.both n o) ne = (n.fits, o.fits)
  fits-of (Turns.only_next n dead same) ne = absurd (ne (sym same))
  fits-of (Turns.only_other n dead same) ne = absurd (ne (sym same))

  before-to : {l m h k : List ℕ} → Both Stands l h → Both Stands m k → Before g l m → Before f h k
  before-to (pair {w = v} s (pair {w = w} t b)) (pair s' (pair {w = x} t' b')) (Before.turns k n o ne) =
      let k' = kind_at s.good s.ends s.is k in
      let turns = a.turns s.good s.ends k' in
      let ne' : g.next (node v s.numbers) ≡ g.other (node v s.numbers) → ⊥ = λ h. ne (n ∙ ap g.next s.is ∙ h ∙ ap g.other (sym s.is) ∙ sym o) in
      let fits = fits-of turns ne' in
      let z = turn-to turns ne' (rw (n ∙ ap g.next s.is) at t) (rw (o ∙ ap g.other s.is) at t') (closed.step s.good k' (inl refl) fits.0) (closed.step s.good k' (inr refl) fits.1) in
      rw (stands_one s' s) (Before.turns k' z.0 z.1 z.2)
  before-to none _ x = elim x [ ]
  before-to (pair s b) none x = elim x [ ]
  before-to (pair s b) (pair s' b') (Before.later x) = rw (stands_one s' s) (Before.later (before-to b b' x))

  first_to : {μ ν : List ℕ → ℕ} → M g.start → ((l m : List ℕ) → Both Stands l m → μ l ≡ ν m) → {l h : List ℕ} → CountedPath f K address C h → Both Stands l h → FirstOf g (HandlerPath g L) μ l
      → FirstOf f (CountedPath f K address C) ν h
  first_to m same {l} {h} p b x =
      record {
        in_it = p;
        most = λ k q. let y = walk-handler q in rw (← same y.0 k y.2, ← same l h b) (x.most y.0 y.1);
        first = λ k q e.
            let y = walk-handler q in
            ⊎_elim (λ i. inl (both_one (rw i at y.2) b)) (λ i. inr (before-to b y.2 i)) (x.first y.0 y.1 (same y.0 k y.2 ∙ e ∙ sym (same l h b)));
      }

  -- what is answered of the flow that is unrolled: N and the depth, with both paths
  pub bound-to : {c cycles : ℕ → ℕ} → Same Stands c cycles → {index : ℕ → ℕ} → Same Stands index address → M g.start → {N d : ℕ} {path deep p p' q q' : List ℕ} {x : Found} → HasBound g c L N d path deep
      → PathAnswer index p p' q q' N d path deep x → (l : List ℕ) × (m : List ℕ) × HasCountedBound f cycles K address C N d l m × PathAnswer address p p' q q' N d l m x
  bound-to cost same m b y =
      let s = name-handler m b.longest.in_it in
      let t = name-handler m b.deepest.in_it in (
        s.0,
        t.0,
        record {
          longest = first_to m (λ l k i. both_sum cost i) s.1 s.2 b.longest;
          sum = b.sum ∙ both_sum cost s.2;
          deepest = first_to m (λ l k i. depth-to 0 i) t.1 t.2 b.deepest;
          depth = b.depth ∙ depth-to 0 t.2;
        },
        path_answer_to same s.2 t.2 y,
      )
