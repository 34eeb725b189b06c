-- Laws on marking: one place, one after another, and the room that is left.
use mathlib.Core.Path.{◌≡◌, refl, sym, ◌∙◌}
use mathlib.Core.Logic.{◌⊎◌, inl, inr, ⊎_elim}
use mathlib.Core.List.{List}
use Prim.Native.Nat.{ℕ, ◌+◌, ◌≤◌, ◌<◌}
use native.Mathlib.Nat.{le_refl}
use native.Mathlib.Omega.{arith}
use native.Mathlib.Decide.{ℕ_discrete, dec_lt}
use lib.ListN.{length, get_or, set, take}
use lib.Seq.{get_or-set_same, get_or-set_other, length-take-le, get_or-take}
use Rattle.graph.specs.Laid.{most_nodes}
use Rattle.graph_search.specs.Marks.{Marked, OnQ, Blank, Room, Grown, Places, Listed}
use Rattle.graph_search.proofs.Zeros.{zeros_set, zeros_all, cases_set, marked_lt}

pub grown_none : {P : ℕ → Type 0} (m q : List ℕ) (t : ℕ) → Grown P m q t m q t
grown_none m q t = record { total = refl; more = le_refl t; keeps = λ v k. k; same = λ i l. refl; new = λ v k. inl k; has = λ i a b. absurd (omega arith) }

module _ (m q : List ℕ) (t w : ℕ) (room : Room m q t) (l : w < length m) (e : get_or m w 0 ≡ 0) where
  pub room-lt : t < length q
  room-lt = omega (arith, room.len, room.room, zeros_set m w 0 l e)

  pub grown-one : Grown (λ x. x ≡ w) m q t (set m w 1) (set q t w) (t + 1) × Marked (set m w 1) w
  grown-one = (
    record {
      total = omega (arith, zeros_set m w 0 l e);
      more = omega arith;
      keeps = λ v k. cases_set (λ x. 0 < x) m w v 1 l (λ _. omega arith) (λ _. k);
      same = λ i h. get_or-set_other q t i w 0 (λ eq. omega arith);
      new = λ v k. new v k (ℕ_discrete v w);
      has = λ i a b. has i a b;
    },
    rw (get_or-set_same m w 1 0 l) (omega arith),
  )
    where
      new : (v : ℕ) → Marked (set m w 1) v → Dec (v ≡ w) → Marked m v ⊎ OnQ (set q t w) (t + 1) v
      new v k (yes e') = inr (t, omega arith, get_or-set_same q t w 0 room-lt ∙ sym e')
      new v k (no n) = inl (rw (get_or-set_other m w v 1 0 n) at k)

      has : (i : ℕ) → t ≤ i → i < t + 1 → get_or (set q t w) i 0 ≡ w
      has i a b =
          let i-t : i ≡ t = omega arith in
          rw i-t (get_or-set_same q t w 0 room-lt)

module _ {P Q : ℕ → Type 0} {m q m' q' m'' q'' : List ℕ} {t t' t'' : ℕ} where
  -- one after the other
  pub grown-then : (R : ℕ → Type 0) → ((x : ℕ) → P x → R x) → ((x : ℕ) → Q x → R x)
      → Grown P m q t m' q' t' → Grown Q m' q' t' m'' q'' t'' → Grown R m q t m'' q'' t''
  grown-then R pr qr a b =
      record {
        total = b.total ∙ a.total;
        more = omega (arith, a.more, b.more);
        keeps = λ v k. b.keeps v (a.keeps v k);
        same = λ i l. b.same i (omega (arith, a.more)) ∙ a.same i l;
        new = λ v k. ⊎_elim (λ h. ⊎_elim inl (λ o. inr (o.0, omega (arith, o.1, b.more), b.same o.0 o.1 ∙ o.2)) (a.new v h)) inr (b.new v k);
        has = λ i lo hi. has i lo hi (dec_lt i t');
      }
    where
      has : (i : ℕ) → t ≤ i → i < t'' → Dec (i < t') → R (get_or q'' i 0)
      has i lo hi (yes l) = pr (get_or q'' i 0) (rw (b.same i l) (a.has i lo l))
      has i lo hi (no n) = qr (get_or q'' i 0) (b.has i (omega arith) hi)

-- where nothing is marked
pub room_blank : (m q : List ℕ) → Blank m → length q ≡ length m → length m ≤ most_nodes → Room m q 0
room_blank m q b e l = record { len = e; small = l; room = omega (arith, zeros_all m b) }

-- and after a marking
pub room_grown : {P : ℕ → Type 0} {m q m' q' : List ℕ} {t t' : ℕ} → Room m q t → Grown P m q t m' q' t' → length m' ≡ length m → length q' ≡ length q → Room m' q' t'
room_grown r gr a b = record { len = omega (arith, r.len); small = omega (arith, r.small); room = omega (arith, r.room, gr.total) }

-- the part of a queue that is listed
module _ {m q : List ℕ} {t : ℕ} (li : Listed m q t) (len : length q ≡ length m) where
  pub part-length : length (take t q) ≡ t
  part-length = length-take-le t q (omega (arith, li.le, len))

  pub part-listed : Listed m (take t q) (length (take t q))
  part-listed =
      record {
        listed = λ v h. let o = li.listed v h in (o.0, omega (arith, o.1, part-length), get_or-take t q o.0 0 o.1 ∙ o.2);
        marked = λ i l. rw (get_or-take t q i 0 (omega (arith, l, part-length))) (li.marked i (omega (arith, l, part-length)));
        le = omega (arith, part-length, li.le);
      }

  pub part-places : {n : ℕ} → length m ≡ n → n ≤ most_nodes → Places (take t q) n
  part-places e small =
      record {
        small = small;
        le = omega (arith, part-length, li.le, e);
        below = λ i l. omega (arith, marked_lt m (get_or (take t q) i 0) (part-listed.marked i l), e);
      }
