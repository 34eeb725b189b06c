-- A search keeps its invariant from the start on, and where its head has come to the end of the queue it has found all.
use mathlib.Core.Path.{◌≡◌, ◌∙◌}
use mathlib.Core.Logic.{inl, inr, ⊎_elim}
use mathlib.Core.List.{List}
use Prim.Native.Nat.{ℕ, ◌+◌, ◌≤◌, ◌<◌}
use native.Mathlib.Omega.{arith}
use native.Mathlib.Decide.{dec_lt}
use lib.ListN.{length, get_or}
use Rattle.graph.specs.Graph.{Graph, GoesOn, Edge, Reach, here}
use Rattle.graph.proofs.Reach.{reach_snoc, reach_in}
use Rattle.graph_search.specs.Marks.{Marked, Blank, Room, Grown, Listed}
use Rattle.graph_search.specs.Search.{Visited, Search, Reached}
use Rattle.graph_search.proofs.Zeros.{marked_lt}
use Rattle.graph_search.proofs.Grown.{grown_none, grown-then}

module _ {g : Graph} {v : ℕ} where
  -- a place that does not go on has nothing to mark
  pub visited-none : (m q : List ℕ) (t : ℕ) → (GoesOn g v → ⊥) → Grown (Edge g v) m q t m q t × Visited g v m
  visited-none m q t h = (grown_none m q t, record { all = λ w e. absurd (h e.0) })

  -- a place that goes on has both successors to mark
  pub visited-both : {m q m' q' m'' q'' : List ℕ} {t t' t'' : ℕ} → GoesOn g v → Grown (λ x. x ≡ g.next v) m q t m' q' t' × Marked m' (g.next v)
      → Grown (λ x. x ≡ g.other v) m' q' t' m'' q'' t'' × Marked m'' (g.other v) → Grown (Edge g v) m q t m'' q'' t'' × Visited g v m''
  visited-both on a b = (
    grown-then (Edge g v) (λ x e. (on, inl e)) (λ x e. (on, inr e)) a.0 b.0,
    record { all = λ w e. ⊎_elim (λ h. rw h (b.0.keeps (g.next v) a.1)) (λ h. rw h b.1) e.1 },
  )

module _ {g : Graph} {s : ℕ} where
  pub search-start : {m q m' q' : List ℕ} {t : ℕ} → Blank m → Grown (λ x. x ≡ s) m q 0 m' q' t × Marked m' s → Search g s m' q' t 0
  search-start none (gr, ms) =
      record {
        started = ms;
        onq = λ v k. ⊎_elim (λ h. absurd (omega (arith, none.at v))) (λ o. o) (gr.new v k);
        marked = λ i l. rw (gr.has i (omega arith) l) ms;
        sound = λ i l. rw (gr.has i (omega arith) l) here;
        closed = λ i w l e. omega arith;
        le = omega arith;
      }

  pub search-more : {m q m' q' : List ℕ} {t t' h : ℕ} → Search g s m q t h → h < t → Grown (Edge g (get_or q h 0)) m q t m' q' t' × Visited g (get_or q h 0) m'
      → Search g s m' q' t' (h + 1)
  search-more {m} {q} {m'} {q'} {t} {t'} {h} se lt (gr, all) =
      record {
        started = gr.keeps s se.started;
        onq = λ v k. ⊎_elim (λ old. let o = se.onq v old in (o.0, omega (arith, o.1, gr.more), gr.same o.0 o.1 ∙ o.2)) (λ o. o) (gr.new v k);
        marked = λ i l. marked i l (dec_lt i t);
        sound = λ i l. sound i l (dec_lt i t);
        closed = λ i w l e. closed i w l e (dec_lt i h);
        le = omega (arith, gr.more);
      }
    where
      marked : (i : ℕ) → i < t' → Dec (i < t) → Marked m' (get_or q' i 0)
      marked i l (yes old) = rw (gr.same i old) (gr.keeps (get_or q i 0) (se.marked i old))
      marked i l (no n) = all.all (get_or q' i 0) (gr.has i (omega arith) l)

      sound : (i : ℕ) → i < t' → Dec (i < t) → Reach g s (get_or q' i 0)
      sound i l (yes old) = rw (gr.same i old) (se.sound i old)
      sound i l (no n) = reach_snoc (se.sound h lt) (gr.has i (omega arith) l)

      closed : (i w : ℕ) → i < h + 1 → Edge g (get_or q' i 0) w → Dec (i < h) → Marked m' w
      closed i w l e (yes old) = gr.keeps w (se.closed i w old (rw (gr.same i (omega arith)) at e))
      closed i w l e (no n) =
          let i-h : i ≡ h = omega arith in
          all.all w (rw (i-h, gr.same h lt) at e)

  pub search-end : {m q : List ℕ} {t h : ℕ} → Search g s m q t h → t ≤ h → Reached g s m
  search-end {m} {q} {t} {h} se le =
      record {
        sound = λ v k. let o = se.onq v k in rw o.2 at (se.sound o.0 o.1);
        complete = λ v r. reach_in (Marked m) (λ u w k e. let o = se.onq u k in se.closed o.0 w (omega (arith, o.1)) (rw o.2 e)) r se.started;
      }

  pub search-listed : {m q : List ℕ} {t h : ℕ} → Room m q t → Search g s m q t h → t ≤ h → Listed m q t
  search-listed {m} {q} room se le =
      record { listed = se.onq; marked = se.marked; le = omega (arith, room.room) }

-- the place at the queue's head is one of the places
pub head_lt : {g : Graph} {m q : List ℕ} {s t h : ℕ} → Search g s m q t h → h < t → get_or q h 0 < length m
head_lt {m = m} {q = q} {h = h} se l = marked_lt m (get_or q h 0) (se.marked h l)
