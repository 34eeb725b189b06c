-- The steps of exploring an image, on lists.
use mathlib.Core.Path.{◌≡◌, refl, sym, ap, ◌∙◌}
use mathlib.Core.Logic.{◌⊎◌, inl, inr}
use mathlib.Core.List.{List}
use Prim.Native.Nat.{ℕ, suc, ◌+◌, ◌-◌, ◌*◌, ◌≤◌, ◌<◌}
use native.Mathlib.Omega.{arith}
use native.Mathlib.Decide.{ℕ_discrete}
use lib.ListN.{length, get_or, set}
use lib.Seq.{get_or-set_same, get_or-set_other}
use Rattle.device.specs.declared.Device.{Device}
use Rattle.graph_search.specs.Marks.{Blank}
use Rattle.routines.specs.Numbered.{Names}
use Rattle.routines.specs.Exploring.{Told, NodeOf, Explored}
use Rattle.routines.proofs.Exploring.{read-on}
use Rattle.routines_numbered.specs.Packed.{node_in, packed, Fits, name_in, map_in, nodes_in}
use Rattle.routines_numbered.specs.Numbering.{Numbers, LinksLt}
use Rattle.routines_numbered.specs.declared.Links.{Links}
use Rattle.routines_numbered.proofs.Packed.{place_of, next_of, other-of, into-of, kind_of, cost-of, address_of_lem, known_of, lays_in}
use Rattle.routines_numbered.proofs.Numbering.{name_lt, count_le, numbers_then, numbers_none, numbers_of_lem}
use Rattle.bound_flow.specs.Flow.{address_of}
use Rattle.bound_calls.specs.CallFlow.{call_node_of, call_flow, call_cycles}
use Rattle.bound_calls.specs.declared.CallNode.{CallNode}
use Rattle.bound_calls.proofs.Shape.{call-node-good}
use Rattle.bound_numbered.specs.Found.{After, goes_next, goes_other, call_unknown, call_known, call_into, Good, Linked, none, on, call, Reads, ImageNumbered}

pub node_good : (d : Device) (rom : ℕ → ℕ) → ((at : ℕ) → rom at < 256) → (v : ℕ) → v < 16384 → Good (call_node_of d rom v)
node_good d rom bytes v l =
    let g = call-node-good d rom bytes v l in
    record { next_lt = g.next_lt; other_lt = g.other_lt; entry_lt = g.entry_lt; kind_lt = omega (arith, g.kind_le); cost_lt = omega (arith, g.le) }

module _ (x : CallNode) {a b : List ℕ} {n : ℕ} where
  pub after_none : (x.kind ≡ 3 → ⊥) → (x.kind ≡ 1 → ⊥) → Told (name_in a) (map_in b) n → Numbers (After x) a b n a b n
  after_none i j t = numbers_of_lem no (numbers_none t)
    where
      no : (w : ℕ) → After x w → ⊥
      no w (goes_next k e) = j k
      no w (goes_other k e) = j k
      no w (call_unknown k e) = i k
      no w (call_known k e) = i k
      no w (call_into k e) = i k

  pub after_both : x.kind ≡ 1 → {a' b' a'' b'' : List ℕ} {n' n'' : ℕ} → Numbers (λ u. u ≡ x.next) a b n a' b' n' → Numbers (λ u. u ≡ x.other) a' b' n' a'' b'' n'' → Numbers (After x) a b n a'' b'' n''
  after_both i y z = numbers_of_lem one (numbers_then y z)
    where
      one : (w : ℕ) → After x w → (w ≡ x.next) ⊎ (w ≡ x.other)
      one w (goes_next k e) = inl e
      one w (goes_other k e) = inr e
      one w (call_unknown k e) = absurd (omega (arith, i, k))
      one w (call_known k e) = absurd (omega (arith, i, k))
      one w (call_into k e) = absurd (omega (arith, i, k))

  pub after_call : x.kind ≡ 3 → {a' b' a'' b'' a''' b''' : List ℕ} {n' n'' n''' : ℕ} → Numbers (λ u. u ≡ x.next) a b n a' b' n' → Numbers (λ u. u ≡ x.other) a' b' n' a'' b'' n''
      → Numbers (λ u. u ≡ 2 * x.entry) a'' b'' n'' a''' b''' n''' → Numbers (After x) a b n a''' b''' n'''
  after_call i y z u = numbers_of_lem one (numbers_then (numbers_then y z) u)
    where
      one : (w : ℕ) → After x w → ((w ≡ x.next) ⊎ (w ≡ x.other)) ⊎ (w ≡ 2 * x.entry)
      one w (goes_next k e) = absurd (omega (arith, i, k))
      one w (goes_other k e) = absurd (omega (arith, i, k))
      one w (call_unknown k e) = inl (inl e)
      one w (call_known k e) = inl (inr e)
      one w (call_into k e) = inr e

-- what the links say of each kind
on_links : {map : ℕ → ℕ} {x : CallNode} {l : Links} → Linked map x l → x.kind ≡ 1 → (l.next + 1 ≡ map x.next) × (l.other + 1 ≡ map x.other)
on_links (none i j a b c) k = absurd (j k)
on_links (on i a b c) k = (a, b)
on_links (call i a b c) k = absurd (omega (arith, i, k))

call_links : {map : ℕ → ℕ} {x : CallNode} {l : Links} → Linked map x l → x.kind ≡ 3 → (l.next + 1 ≡ map x.next) × (l.other + 1 ≡ map x.other) × (l.into + 1 ≡ map (2 * x.entry))
call_links (none i j a b c) k = absurd (i k)
call_links (on i a b c) k = absurd (omega (arith, i, k))
call_links (call i a b c) k = (a, b, c)

-- a place of the map has its number
module _ {name map : ℕ → ℕ} {n : ℕ} (t : Told name map n) where
  linked : (k w : ℕ) → k + 1 ≡ map w → Names name n k w
  linked k w e = let i : map w - 1 ≡ k = omega (arith, e) in rw i at (t.names w (omega (arith, e)))

  fits : {x : CallNode} {l : Links} {w : ℕ} → n ≤ 16384 → w < 16384 → Good x → Linked map x l → Fits w l.next l.other l.into x.kind x.cost
  fits {x} {l} few small g (none i j a b c) = record { place_lt = small; next_lt = omega (arith, a); other_lt = omega (arith, b); into_lt = omega (arith, c); kind_lt = g.kind_lt; cost_lt = g.cost_lt }
  fits {x} {l} few small g (on i a b c) =
      record { place_lt = small; next_lt = omega (arith, few, (linked l.next x.next a).found); other_lt = omega (arith, few, (linked l.other x.other b).found); into_lt = omega (arith, c); kind_lt = g.kind_lt; cost_lt = g.cost_lt }
  fits {x} {l} few small g (call i a b c) =
      record {
        place_lt = small;
        next_lt = omega (arith, few, (linked l.next x.next a).found);
        other_lt = omega (arith, few, (linked l.other x.other b).found);
        into_lt = omega (arith, few, (linked l.into (2 * x.entry) c).found);
        kind_lt = g.kind_lt;
        cost_lt = g.cost_lt;
      }

  links-lt : {x : CallNode} {l : Links} → 0 < n → Linked map x l → (l.next < n) × (l.other < n) × (l.into < n)
  links-lt some (none i j a b c) = (omega (arith, a), omega (arith, b), omega (arith, c))
  links-lt {x} {l} some (on i a b c) = ((linked l.next x.next a).found, (linked l.other x.other b).found, omega (arith, c))
  links-lt {x} {l} some (call i a b c) = ((linked l.next x.next a).found, (linked l.other x.other b).found, (linked l.into (2 * x.entry) c).found)

  -- a word holds the node of its place
  node_of : (d : Device) (rom : ℕ → ℕ) (start w : ℕ) (l : Links) (x : CallNode) → x ≡ call_node_of d rom w → Fits w l.next l.other l.into x.kind x.cost → Linked map x l
      → NodeOf (call_flow d rom start) (call_cycles d rom) address_of name n w (node_in (packed w l.next l.other l.into x.kind x.cost))
  unfolding call_flow call_cycles
  node_of d rom start w l x e f i =
      record {
        kind = kind_of f ∙ ap (λ (y : CallNode). y.kind) e;
        known = known_of f;
        cost = cost-of f ∙ ap (λ (y : CallNode). y.cost) e;
        address = address_of_lem f;
        next = λ k. rw (next_of f) (rw e at (linked l.next x.next (on_links i (sym (kind_of f) ∙ k)).0));
        other = λ k. rw (other-of f) (rw e at (linked l.other x.other (on_links i (sym (kind_of f) ∙ k)).1));
        unknown_after = λ k. rw (next_of f) (rw e at (linked l.next x.next (call_links i (sym (kind_of f) ∙ k)).0));
        known_after = λ k. rw (other-of f) (rw e at (linked l.other x.other (call_links i (sym (kind_of f) ∙ k)).1));
        into = λ k. rw (into-of f) (rw e at (linked l.into (2 * x.entry + 0) ((call_links i (sym (kind_of f) ∙ k)).2 ∙ ap map (omega arith))));
      }

-- the same places told by other words
told_alike : {name name' map : ℕ → ℕ} {n : ℕ} → ((v : ℕ) → name' v ≡ name v) → Told name map n → Told name' map n
told_alike {map = map} e t = record { told = λ v h. ap map (e v) ∙ t.told v h; names = λ w h. let s = t.names w h in record { found = s.found; is = e (map w - 1) ∙ s.is } }

-- what follows the place of a number is numbered, and its word laid
module _ (d : Device) (rom : ℕ → ℕ) (bytes : (at : ℕ) → rom at < 256) (a b a' b' : List ℕ) (n head n' p : ℕ) (x : CallNode) (l : Links)
    (named : p ≡ name_in a head) (read : x ≡ call_node_of d rom p) (y : Numbers (After x) a b n a' b' n') (i : Linked (map_in b') x l) where
  place_lt : p < 16384
  place_lt = omega (arith, named, name_lt a head)

  pub laid-fits : Fits p l.next l.other l.into x.kind x.cost
  laid-fits = fits y.told (count_le a' b' n' y.told) place_lt (rw read (node_good d rom bytes p place_lt)) i

  abbrev word : ℕ
  word = packed p l.next l.other l.into x.kind x.cost

  module _ (h : head < n) (len : length a' ≡ 16384) where
    in_words : head < length a'
    in_words = omega (arith, len, h, y.grows.more, count_le a' b' n' y.told)

    names : (v : ℕ) → name_in (set a' head word) v ≡ name_in a' v
    names v = lays_in a' head word in_words (place_of laid-fits ∙ named ∙ sym (y.grows.kept head h)) v

    node : (start : ℕ) → NodeOf (call_flow d rom start) (call_cycles d rom) address_of (name_in (set a' head word)) n' (name_in a head) (nodes_in (set a' head word) head)
    unfolding nodes_in
    node start = rw (get_or-set_same a' head word 0 in_words, ← named) (node_of (told_alike names y.told) d rom start p l x read laid-fits i)

    links : LinksLt (set a' head word) n' head
    unfolding nodes_in
    links =
        let some : 0 < n' = omega (arith, h, y.grows.more) in
        let b = links-lt y.told some i in
        record {
          next = rw (get_or-set_same a' head word 0 in_words, next_of laid-fits) b.0;
          other = rw (get_or-set_same a' head word 0 in_words, other-of laid-fits) b.1;
          into = rw (get_or-set_same a' head word 0 in_words, into-of laid-fits) b.2;
        }

    pub reads : Reads d rom a b n head (set a' head word) b' n'
    reads =
        record {
          told = told_alike names y.told;
          grows = record { more = y.grows.more; kept = λ v k. names v ∙ y.grows.kept v k };
          same = λ v k. get_or-set_other a' head v word 0 (λ z. omega (arith, k, z)) ∙ y.same v (omega (arith, k, h));
          rest = λ v k. get_or-set_other a' head v word 0 (λ z. omega (arith, k, z, h, y.grows.more)) ∙ y.rest v k;
          node = node;
          links = links;
        }

-- what holds while the image is explored
pub record Exploring (d : Device) (rom : ℕ → ℕ) (start : ℕ) (x m : List ℕ) (n done : ℕ) : Type 0 where
  pub explored : Explored (call_flow d rom start) (call_cycles d rom) address_of (name_in x) (map_in m) n done 0 (nodes_in x)
  pub links : (v : ℕ) → v < done → LinksLt x n v
  pub rest : (v : ℕ) → n ≤ v → get_or x v 0 ≡ 0

pub explore_start : (d : Device) (rom : ℕ → ℕ) (start : ℕ) {x m x' m' : List ℕ} {n : ℕ} → Blank x → Numbers (λ u. u ≡ 2 * start + 1) x m 0 x' m' n → n ≤ 1 → Exploring d rom start x' m' n 0
unfolding call_flow
explore_start d rom start {m' = m'} blank y few =
    let s = y.told.names (2 * start + 1) (y.has (2 * start + 1) refl) in
    let z : map_in m' (2 * start + 1) - 1 ≡ 0 = omega (arith, few, s.found) in
    record {
      explored = record { told = y.told; start = rw z at s; holds = λ v h. absurd (omega (arith, h)) };
      links = λ v h. absurd (omega (arith, h));
      rest = λ v h. y.rest v h ∙ blank.at v;
    }

pub explore_on : {d : Device} {rom : ℕ → ℕ} {start : ℕ} {x m x' m' : List ℕ} {n done n' : ℕ} → Exploring d rom start x m n done → done < n → Reads d rom x m n done x' m' n' → Exploring d rom start x' m' n' (done + 1)
unfolding nodes_in
explore_on {start = start} {x' = x'} {done = done} {n' = n'} a h y =
    let s : done + 1 ≡ suc done = omega arith in
    record {
      explored = rw s (read-on y.grows a.explored h y.told (λ v k. ap node_in (y.same v k)) (y.node start));
      links = λ v k. links v k (ℕ_discrete v done);
      rest = λ v k. y.rest v k ∙ a.rest v (omega (arith, k, y.grows.more));
    }
  where
    links : (v : ℕ) → v < done + 1 → Dec (v ≡ done) → LinksLt x' n' v
    links v k (yes e) = rw e y.links
    links v k (no ne) =
        let b = a.links v (omega (arith, k, ne)) in
        let s = ap node_in (y.same v (omega (arith, k, ne))) in
        record { next = rw s (omega (arith, b.next, y.grows.more)); other = rw s (omega (arith, b.other, y.grows.more)); into = rw s (omega (arith, b.into, y.grows.more)) }

pub image_numbered : {d : Device} {rom : ℕ → ℕ} {start : ℕ} {x m : List ℕ} {n done : ℕ} → Exploring d rom start x m n done → done ≡ n → ImageNumbered d rom start x m n
image_numbered a e = record { explored = rw e at a.explored; links = λ v h. a.links v (omega (arith, e, h)); rest = a.rest }
