-- The joined graph of words, node by node.
use Rattle.std.proofs.Common.{◌≡◌, ℕ, ◌+◌, ◌-◌, ◌*◌, ◌/◌, ◌%◌, ◌<◌, ◌≤◌, Bool, true, false, eqb, ltb, List, get_or, sym, refl, ◌∙◌, subst, ⊎_elim, arith, le-ltb, lt-ltb, eq-eqb, ne_eqb}
use native.Mathlib.Decide.{ℕ_discrete, dec_lt}
use Rattle.laws.specs.Choice.{pick, either}
use Rattle.graph.specs.Graph.{Graph, Ends, Excluded}
use Rattle.graph.specs.Laid.{Inside}
use Rattle.routines_joined.specs.Ranks.{After}
use Rattle.routines.specs.Calling.{after}
use Rattle.routines.specs.Joined.{place_of, end_at, joined}
use Rattle.routines.specs.Shape.{Small}
use Rattle.routines_numbered.specs.Packed.{nodes_in, map_in}
use Rattle.routines_joined.specs.Words.{flow_at, Laid, joined_at, kind_at, NodeIs}
use Rattle.routines_joined.specs.Nodes.{Onward}
use Rattle.graph_search.specs.Search.{GoesTo}

pick_lt : (b : Bool) {x y n : ℕ} → x < n → y < n → pick b x y < n
pick_lt true a b = a
pick_lt false a b = b

module _ (x m : List ℕ) where
  pub node-entry : (y : ℕ) → y < 2048 → NodeIs (joined_at x m) y 1 (2048 + (2 * (map_in m (2 * y) - 1) + 0)) (2048 + (2 * (map_in m (2 * y) - 1) + 0))
  unfolding joined_at joined flow_at
  node-entry y h = record { kind = rw (lt-ltb y 2048 h) refl; next = rw (lt-ltb y 2048 h) refl; other = rw (lt-ltb y 2048 h) refl }

  pub node_call : (y v : ℕ) → 2048 ≤ y → v ≡ (y - 2048) / 2 → (nodes_in x v).kind ≡ 3 → NodeIs (joined_at x m) y 1 (nodes_in x (nodes_in x v).into).address (2048 + (2 * (nodes_in x v).next + (y - 2048) % 2))
  unfolding joined_at joined flow_at after
  node_call y v h e is =
      record {
        kind = rw (le-ltb y 2048 h, ← e, is) refl;
        next = rw (le-ltb y 2048 h, ← e, is) refl;
        other = rw (le-ltb y 2048 h, ← e, is) refl;
      }

  pub node-on : (y v : ℕ) → 2048 ≤ y → v ≡ (y - 2048) / 2 → ((nodes_in x v).kind ≡ 3 → ⊥)
      → NodeIs (joined_at x m) y (kind_at (nodes_in x v).kind ((y - 2048) % 2)) (2048 + (2 * (nodes_in x v).next + (y - 2048) % 2)) (2048 + (2 * (nodes_in x v).other + (y - 2048) % 2))
  unfolding joined_at joined flow_at
  node-on y v h e is_not =
      record {
        kind = rw (le-ltb y 2048 h, ← e) refl;
        next = rw (le-ltb y 2048 h, ← e, ne_eqb (nodes_in x v).kind 3 is_not) refl;
        other = rw (le-ltb y 2048 h, ← e, ne_eqb (nodes_in x v).kind 3 is_not) refl;
      }

  module _ {n : ℕ} (laid : Laid x m n) where
    -- the ways lead to nodes
    pub node-lt : (y : ℕ) → y < 2048 + 2 * n → ((joined_at x m).next y < 2048 + 2 * n) × ((joined_at x m).other y < 2048 + 2 * n)
    node-lt y lt = go (dec_lt y 2048) (ℕ_discrete (nodes_in x v).kind 3)
      where
        v : ℕ
        v = (y - 2048) / 2

        go : Dec (y < 2048) → Dec ((nodes_in x v).kind ≡ 3) → ((joined_at x m).next y < 2048 + 2 * n) × ((joined_at x m).other y < 2048 + 2 * n)
        go (yes a) q =
            let i = node-entry y a in
            (omega (arith, i.next, laid.map_le (2 * y), laid.some), omega (arith, i.other, laid.map_le (2 * y), laid.some))
        go (no a) (yes b) =
            let i = node_call y v (omega arith) refl b in
            let w : v < n = omega (arith, lt, a) in
            (omega (arith, i.next, laid.entry_lt v w b), omega (arith, i.other, (laid.links v w).next))
        go (no a) (no b) =
            let i = node-on y v (omega arith) refl b in
            let w : v < n = omega (arith, lt, a) in
            (omega (arith, i.next, (laid.links v w).next), omega (arith, i.other, (laid.links v w).other))

    pub inside : Inside (joined_at x m) (2048 + 2 * n)
    inside = record { edge = λ v w h e. ⊎_elim (λ i. rw i (node-lt v h).0) (λ i. rw i (node-lt v h).1) e.1 }

    -- the flow is finite
    pub small : Small (flow_at x m) n 2048
    unfolding flow_at
    small =
        record {
          start = laid.some;
          from = λ e h. omega (arith, laid.map_le (2 * e), laid.some);
          next = λ v h. (laid.links v h).next;
          other = λ v h. (laid.links v h).other;
          entry = λ v h. entry v h (ℕ_discrete (nodes_in x v).kind 3);
        }
      where
        entry : (v : ℕ) → v < n → Dec ((nodes_in x v).kind ≡ 3) → pick (eqb (nodes_in x v).kind 3) (nodes_in x (nodes_in x v).into).address 0 < 2048
        entry v h (yes e) = rw (eq-eqb (nodes_in x v).kind 3 e) (laid.entry_lt v h e)
        entry v h (no e) = rw (ne_eqb (nodes_in x v).kind 3 e) (omega arith)

-- what follows a node
pub onward : {g : Graph} {y a b : ℕ} → NodeIs g y 1 a b → Onward g y a b
onward i = record { on = sym i.kind; next_is = i.next; other_is = i.other }

pub goes_to : {x m : List ℕ} {n : ℕ} → Laid x m n → {y a b : ℕ} → y < 2048 + 2 * n → Onward (joined_at x m) y a b → GoesTo (joined_at x m) (2048 + 2 * n) y a b
goes_to {x} {m} laid {y} h i =
    let t = node-lt x m laid y h in
    record { on = i.on; next = i.next_is; next_lt = omega (arith, t.0, i.next_is); other = i.other_is; other_lt = omega (arith, t.1, i.other_is) }

pub onward_kind : {g : Graph} {y a b : ℕ} (k s : ℕ) → NodeIs g y (kind_at k s) a b → k ≡ 1 → Onward g y a b
onward_kind k s i e =
    let z : kind_at k s ≡ 1 = rw e refl in
    record { on = sym i.kind ∙ z; next_is = i.next; other_is = i.other }

-- a node that does not go on ends its routine or is excluded
ends_kind : (k s : ℕ) → k ≡ pick (eqb s 1) 2 4 → kind_at k s ≡ 2
ends_kind k s e = go (ℕ_discrete s 1)
  where
    go : Dec (s ≡ 1) → kind_at k s ≡ 2
    go (yes z) = rw (e, z)
    go (no z) = rw (e, ne_eqb s 1 z)

pub node_ends : {g : Graph} {y a b : ℕ} (k s : ℕ) → NodeIs g y (kind_at k s) a b → k ≡ pick (eqb s 1) 2 4 → Ends g y
node_ends k s i e = sym i.kind ∙ ends_kind k s e

pub node_excluded : {g : Graph} {y a b : ℕ} (k s : ℕ) → NodeIs g y (kind_at k s) a b → (k ≡ 1 → ⊥) → (k ≡ 3 → ⊥) → (k ≡ pick (eqb s 1) 2 4 → ⊥) → Excluded g y
node_excluded k s i p q r =
    let z : kind_at k s ≡ 0 = rw (ne_eqb k 1 p, ne_eqb k 3 q, ne_eqb k (pick (eqb s 1) 2 4) r) in
    record { not_on = λ e. omega (arith, i.kind, e, z); not_end = λ e. omega (arith, i.kind, e, z) }

-- a node is excluded, goes on or ends
kind_cases : (a b c : Bool) → pick a 1 (pick b 1 (pick c 2 0)) ≤ 2
kind_cases true b c = omega arith
kind_cases false true c = omega arith
kind_cases false false true = omega arith
kind_cases false false false = omega arith

kind_le : (x m : List ℕ) (y : ℕ) → (joined_at x m).kind y ≤ 2
unfolding joined_at joined
kind_le x m y =
    let k = (flow_at x m).kind (place_of 2048 y) in
    kind_cases (ltb y 2048) (either (eqb k 1) (eqb k 3)) (eqb k (end_at 2048 y))

pub not_excluded : (x m : List ℕ) {y k a b : ℕ} → NodeIs (joined_at x m) y k a b → (k ≡ 0 → ⊥) → Excluded (joined_at x m) y → ⊥
not_excluded x m {y} {k} i ne e = go (ℕ_discrete k 1)
  where
    go : Dec (k ≡ 1) → ⊥
    go (yes z) = e.not_on (sym i.kind ∙ z)
    go (no z) = e.not_end (sym i.kind ∙ omega (arith, i.kind, kind_le x m y, ne, z))

-- what follows a node has no higher rank than the higher of the two
pub after_both : {g : Graph} {n y a b r : ℕ} (rank : List ℕ) → GoesTo g n y a b → get_or rank a 0 ≤ r → get_or rank b 0 ≤ r → After g rank y r
after_both {r = r} rank i h l = record { le = λ w e. ⊎_elim (λ z. subst (λ u. get_or rank u 0 ≤ r) (i.next ∙ sym z) h) (λ z. subst (λ u. get_or rank u 0 ≤ r) (i.other ∙ sym z) l) e.1 }
