-- Settling a number keeps the sums and the depths right, whatever the order.
use mathlib.Core.Path.{◌≡◌, refl, sym, ◌∙◌}
use mathlib.Core.Logic.{◌⊎◌, inl, inr}
use mathlib.Core.Bool.{Bool, true, false, not}
use mathlib.Core.List.{List}
use Prim.Native.Nat.{ℕ, zero, suc, ◌+◌, ◌≤◌, ◌<◌, max}
use native.Mathlib.Nat.{not-suc-le-zero}
use native.Mathlib.Omega.{arith}
use native.Mathlib.Decide.{ℕ_discrete}
use lib.Dec.{eqb}
use lib.ListN.{length, get_or, set, length-set}
use lib.Seq.{get_or-set_same, get_or-set_other}
use borrow.Author.Tests.{eq-eqb, ne_eqb}
use Rattle.graph.specs.Graph.{Graph}
use Rattle.graph_search.specs.Marks.{zeros, Blank}
use Rattle.graph_search.proofs.Zeros.{zeros_set, zeros_le, cases_set}
use Rattle.routines_joined.specs.Words.{NodeIs}
use Rattle.routines_numbered.specs.Packed.{nodes_in}
use Rattle.routines_sums.specs.Dist.{Spent, Levels, Stays, Value, ends, forks, calls, Dist, Idle, fork_over, call_over, Settled}
use Rattle.routines_sums.specs.Ways.{ways_in, costs_in, Priced, IdleTo, Swept}

pub never : ◌≡◌ {A = Bool} true false → ⊥
never e = let z : ◌≡◌ {A = ℕ} 0 1 = cc in omega arith

pub not_three : (k : ℕ) → (k ≡ 1 → ⊥) → Stays k (not (eqb k 3))
not_three k n = go (ℕ_discrete k 3)
  where
    go : Dec (k ≡ 3) → Stays k (not (eqb k 3))
    go (yes e) = rw (eq-eqb k 3 e) (record { neither = λ z. absurd (never (sym z)); one = λ z. inr e })
    go (no e) = rw (ne_eqb k 3 e) (record { neither = λ z. (n, e); one = λ z. absurd (never z) })

-- nothing yet
pub dist_blank : {g : Graph} {c : ℕ → ℕ} {d dep : List ℕ} → Blank d → Blank dep → Dist g c d dep
dist_blank {d = d} b e =
    record { fits = λ v. omega (arith, b.at v); deep = λ v. omega (arith, e.at v, zeros_le d); value = λ v h. absurd (omega (arith, b.at v)) }

pub settle_keep : {g : Graph} {c : ℕ → ℕ} {d dep : List ℕ} {v : ℕ} → Dist g c d dep → Idle g c d v → Settled g c d v d dep false
settle_keep dist idle = record { dist = dist; changed = λ e. absurd (never (sym e)); idle = λ _. (refl, idle) }

zeros_set_pos : (l : List ℕ) (i x : ℕ) → i < length l → get_or l i 0 ≡ 0 → 0 < x → zeros (set l i x) + 1 ≡ zeros l
zeros_set_pos l i zero h e p = absurd (not-suc-le-zero p)
zeros_set_pos l i (suc x) h e p = zeros_set l i x h e

-- a store at a node without a sum leaves the values that are there
same : (d : List ℕ) (v : ℕ) → get_or d v 0 ≡ 0 → (l : List ℕ) (a w : ℕ) → 0 < get_or d w 0 → get_or (set l v a) w 0 ≡ get_or l w 0
same d v z l a w h = get_or-set_other l v w a 0 (λ eq. omega (arith, rw eq at h))

module _ {g : Graph} {c : ℕ → ℕ} (d dep : List ℕ) (v x y : ℕ) (z : get_or d v 0 ≡ 0) where
  value_set : (u a b : ℕ) → Value g c d dep u a b → Value g c (set d v x) (set dep v y) u a b
  value_set u a b (ends k e q) = ends k e q
  value_set u a b (forks k m n e q) =
      forks k (rw (same d v z d x (g.next u) m) m) (rw (same d v z d x (g.other u) n) n) (rw (same d v z d x (g.next u) m, same d v z d x (g.other u) n) e) (rw (same d v z dep y (g.next u) m, same d v z dep y (g.other u) n) q)
  value_set u a b (calls k m n e q) =
      calls k (rw (same d v z d x (g.next u) m) m) (rw (same d v z d x (g.other u) n) n) (rw (same d v z d x (g.next u) m, same d v z d x (g.other u) n) e) (rw (same d v z dep y (g.next u) m, same d v z dep y (g.other u) n) q)

-- the node of a number by its kind
module _ (x : List ℕ) (v : ℕ) where
  pub way-call : (nodes_in x v).kind ≡ 3 → NodeIs (ways_in x) v 3 (nodes_in x v).into (nodes_in x v).next
  unfolding ways_in
  way-call k = record { kind = rw k refl; next = rw k refl; other = rw k refl }

  pub way-ret : (nodes_in x v).kind ≡ 4 → NodeIs (ways_in x) v 2 (nodes_in x v).next (nodes_in x v).other
  unfolding ways_in
  way-ret k = record { kind = rw k refl; next = rw k refl; other = rw k refl }

  pub way_on : ((nodes_in x v).kind ≡ 3 → ⊥) → ((nodes_in x v).kind ≡ 4 → ⊥) → NodeIs (ways_in x) v (nodes_in x v).kind (nodes_in x v).next (nodes_in x v).other
  unfolding ways_in
  way_on a b = record { kind = rw (ne_eqb (nodes_in x v).kind 4 b) refl; next = rw (ne_eqb (nodes_in x v).kind 3 a) refl; other = rw (ne_eqb (nodes_in x v).kind 3 a) refl }

-- what follows a number is one, and it costs something
module _ {x : List ℕ} {n : ℕ} (p : Priced x n) (v : ℕ) (h : v < n) where
  pub way-lt : {k a b : ℕ} → NodeIs (ways_in x) v k a b → (a < n) × (b < n)
  unfolding ways_in
  way-lt {k} {a} {b} i = go (ℕ_discrete (nodes_in x v).kind 3)
    where
      go : Dec ((nodes_in x v).kind ≡ 3) → (a < n) × (b < n)
      go (yes e) = (rw (i.next, eq-eqb (nodes_in x v).kind 3 e) (p.links v h).into, rw (i.other, eq-eqb (nodes_in x v).kind 3 e) (p.links v h).next)
      go (no e) = (rw (i.next, ne_eqb (nodes_in x v).kind 3 e) (p.links v h).next, rw (i.other, ne_eqb (nodes_in x v).kind 3 e) (p.links v h).other)

  pub cost_pos : 1 ≤ (ways_in x).kind v → (ways_in x).kind v ≤ 3 → 0 < costs_in x v
  unfolding ways_in costs_in
  cost_pos a b = go (ℕ_discrete (nodes_in x v).kind 4)
    where
      go : Dec ((nodes_in x v).kind ≡ 4) → 0 < (nodes_in x v).cost
      go (yes e) = p.pos v h (omega (arith, e)) (omega (arith, e))
      go (no e) = let s = ne_eqb (nodes_in x v).kind 4 e in p.pos v h (rw s at a) (let b' = rw s at b in omega (arith, b'))

some : (u : ℕ) → (u ≡ 0 → ⊥) → 0 < u
some u ne = omega (arith, ne)

-- what a fork or a call spends, and its level, are its value; or they are too much
module _ {g : Graph} (c : ℕ → ℕ) (d : List ℕ) {v k i j : ℕ} (x cost : ℕ) (n : NodeIs g v k i j) (e : cost ≡ c v) (w : Spent k cost (get_or d i 0) (get_or d j 0) x) where
  fork-sum : k ≡ 1 → x ≡ c v + max (get_or d (g.next v) 0) (get_or d (g.other v) 0)
  fork-sum kk = rw (e, n.next, n.other) at (w.forks (λ z. omega (arith, kk, z)))

  call-sum : k ≡ 3 → x ≡ c v + (get_or d (g.next v) 0 + get_or d (g.other v) 0)
  call-sum kk = rw (e, n.next, n.other) at (w.calls kk)

  pub spent-value : (dep : List ℕ) (y : ℕ) → (k ≡ 1) ⊎ (k ≡ 3) → (get_or d i 0 ≡ 0 → ⊥) → (get_or d j 0 ≡ 0 → ⊥) → Levels k (get_or dep i 0) (get_or dep j 0) y → Value g c d dep v x y
  spent-value dep y (inl kk) a b t =
      forks (sym n.kind ∙ kk) (rw n.next at (some (get_or d i 0) a)) (rw n.other at (some (get_or d j 0) b)) (fork-sum kk) (rw (n.next, n.other) at (t.forks (λ z. omega (arith, kk, z))))
  spent-value dep y (inr kk) a b t =
      calls (sym n.kind ∙ kk) (rw n.next at (some (get_or d i 0) a)) (rw n.other at (some (get_or d j 0) b)) (call-sum kk) (rw (n.next, n.other) at (t.calls kk))

  pub spent-over : (k ≡ 1) ⊎ (k ≡ 3) → 65535 < x → Idle g c d v
  spent-over (inl kk) h = fork_over (sym n.kind ∙ kk) (omega (arith, h, fork-sum kk))
  spent-over (inr kk) h = call_over (sym n.kind ∙ kk) (omega (arith, h, call-sum kk))

module _ {g : Graph} {c : ℕ → ℕ} (d dep : List ℕ) (v : ℕ) (pos : 1 ≤ g.kind v → g.kind v ≤ 3 → 0 < c v) (dist : Dist g c d dep) (len : length dep ≡ length d) (l : v < length d) where
  value-size : (x y : ℕ) → Value g c d dep v x y → (0 < x) × (y + zeros d ≤ length d + 1)
  value-size x y (ends kk e q) = (omega (arith, pos (omega (arith, kk)) (omega (arith, kk))), omega (arith, zeros_le d))
  value-size x y (forks kk a b e q) = (omega (arith, pos (omega (arith, kk)) (omega (arith, kk))), omega (arith, dist.deep (g.next v), dist.deep (g.other v)))
  value-size x y (calls kk a b e q) = (omega (arith, pos (omega (arith, kk)) (omega (arith, kk))), omega (arith, dist.deep (g.next v), dist.deep (g.other v)))

  pub settle_new : (x y : ℕ) → get_or d v 0 ≡ 0 → x < 65536 → Value g c d dep v x y → Settled g c d v (set d v x) (set dep v y) true
  settle_new x y z low val =
      let size = value-size x y val in
      let zs : zeros (set d v x) + 1 ≡ zeros d = zeros_set_pos d v x l z size.0 in
      let lens : length (set d v x) ≡ length d = length-set d v x in
      record {
        dist = record {
          fits = λ u. cases_set (λ a. a < 65536) d v u x l (λ _. low) (λ _. dist.fits u);
          deep = λ u. cases_set (λ a. a + zeros (set d v x) ≤ length (set d v x)) dep v u y (omega arith) (λ _. omega (arith, size.1)) (λ _. omega (arith, dist.deep u));
          value = λ u h. value u h (ℕ_discrete u v);
        };
        changed = λ _. zs;
        idle = λ e. absurd (never e);
      }
    where
      value : (u : ℕ) → 0 < get_or (set d v x) u 0 → Dec (u ≡ v) → Value g c (set d v x) (set dep v y) u (get_or (set d v x) u 0) (get_or (set dep v y) u 0)
      value u h (yes e) = rw (e, get_or-set_same d v x 0 l, get_or-set_same dep v y 0 (omega arith)) (value_set d dep v x y z v x y val)
      value u h (no n) =
          rw (get_or-set_other d v u x 0 n, get_or-set_other dep v u y 0 n) (value_set d dep v x y z u (get_or d u 0) (get_or dep u 0) (dist.value u (rw (get_or-set_other d v u x 0 n) at h)))

pub either_lt : {r a b n : ℕ} → a < n → b < n → (r ≡ a) ⊎ (r ≡ b) → r < n
either_lt h l (inl e) = rw e h
either_lt h l (inr e) = rw e l

pub priced_at : {x : List ℕ} {n n' : ℕ} → n' ≡ n → Priced x n → Priced x n'
priced_at e p = rw e p

module _ {g : Graph} {c : ℕ → ℕ} {d d' dep' d'' dep'' : List ℕ} {i : ℕ} where
  -- one that is given its sum
  pub swept_changed : {r : Bool} → Swept g c d i d' dep' r → Settled g c d' i d'' dep'' true → Swept g c d (i + 1) d'' dep'' true
  swept_changed {r} a b = record { dist = b.dist; changed = λ _. fewer r a; idle = λ e. absurd (never e) }
    where
      fewer : (r : Bool) → Swept g c d i d' dep' r → zeros d'' < zeros d
      fewer true s = omega (arith, s.changed refl, b.changed refl)
      fewer false s =
          let y : zeros d'' < zeros d' = omega (arith, b.changed refl) in
          rw (s.idle refl).0 at y

  -- one that is not
  pub swept_kept : {r : Bool} → Swept g c d i d' dep' r → Settled g c d' i d'' dep'' false → Swept g c d (i + 1) d'' dep'' r
  swept_kept {r} a b =
      let y = b.idle refl in
      record {
        dist = b.dist;
        changed = λ e. rw y.0 (a.changed e);
        idle = λ e. let x = a.idle e in (y.0 ∙ x.0, record { at = λ v l. last v l x.1 (rw (y.0 ∙ x.0) at y.1) (ℕ_discrete v i) });
      }
    where
      last : (v : ℕ) → v < i + 1 → IdleTo g c d i → Idle g c d i → Dec (v ≡ i) → Idle g c d v
      last v l x y (yes e) = rw e y
      last v l x y (no ne) = x.at v (omega (arith, l, ne))
