-- Laws of the ways that lead to an end.
use mathlib.Core.Path.{◌≡◌, refl, sym, ap, ◌∙◌}
use mathlib.Core.Bool.{Bool, true, false, not}
use mathlib.Core.List.{List}
use Prim.Native.Nat.{ℕ, zero, suc, ◌/◌, ◌≤◌, ◌<◌}
use native.Mathlib.Omega.{arith}
use native.Mathlib.Decide.{dec_lt}
use lib.Dec.{eqb}
use borrow.Author.Tests.{ne_eqb}
use lib.ListN.{get_or}
use Rattle.laws.proofs.Computed.{true→T}
use Rattle.routines_numbered.specs.declared.Links.{Links}
use Rattle.routines_numbered.specs.Packed.{place_in, next_in, other_in, into_in, kind_in, cost_in, node_in, nodes_in, packed, Fits}
use Rattle.routines_numbered.proofs.Packed.{next_of, other-of, into-of, kind_of, cost-of, address_of_lem}
use Rattle.counts.specs.Laying.{Numbering, led_to, first_node, Alive, NotAlive, Forks}
use Rattle.routines_counted.specs.Nodes.{numbering_of, NodeTo, Lives, HasEnd, ForkLinks, LinksFit, Relinked, PrunedIs}

pub no_node : (lives : List ℕ) (a : ℕ) → 32768 ≤ a → (false ≡ true → Lives lives a) × (false ≡ false → Lives lives a → ⊥)
no_node lives a h = (λ e. absurd (true→T e), λ e x. omega (arith, h, x.node))

pub by_mark : (lives : List ℕ) (a : ℕ) (r : Bool) → a < 32768 → r ≡ not (eqb (get_or lives a 0) 0) → (r ≡ true → Lives lives a) × (r ≡ false → Lives lives a → ⊥)
by_mark lives a r h e = (λ t. record { node = h; marked = some (get_or lives a 0) (sym e ∙ t) }, λ f x. none (get_or lives a 0) x.marked (sym e ∙ f))
  where
    some : (z : ℕ) → not (eqb z 0) ≡ true → 0 < z
    some zero t = absurd (true→T t)
    some (suc z) t = omega arith

    none : (z : ℕ) → 0 < z → not (eqb z 0) ≡ false → ⊥
    none z k f = true→T (sym f ∙ rw (ne_eqb z 0 (λ q. omega (arith, q, k))) refl)

-- where a step leads, as a node that lives or not
module _ (N : Numbering) (lives : List ℕ) (v d w a : ℕ) (node : NodeTo N v d w a) where
  alive-at : {y : ℕ} → y ≡ a → Lives lives a → Alive N (HasEnd lives) v d w y
  alive-at e x = let g = node.goes x.node in record { fits = g.0; is = e ∙ g.1; ends = rw g.1 at x.marked }

  not-alive-at : (Lives lives a → ⊥) → NotAlive N (HasEnd lives) v d w
  not-alive-at n fits ends = go (dec_lt a 32768)
    where
      go : Dec (a < 32768) → ⊥
      go (yes h) = n (record { node = h; marked = rw (node.goes h).1 ends })
      go (no h) = true→T (sym (node.stays (omega (arith, h))) ∙ fits)

pub forks_of : (N : Numbering) (lives : List ℕ) (v d w o a b : ℕ) (r : Links) → NodeTo N v d w a → NodeTo N v d o b → ForkLinks lives a b r → Forks N (HasEnd lives) v d w o r.next r.other
forks_of N lives v d w o a b r x y (ForkLinks.both p q e f) = Forks.both (alive-at N lives v d w a x e p) (alive-at N lives v d o b y f q)
forks_of N lives v d w o a b r x y (ForkLinks.only_next p q e f) = Forks.only_next (alive-at N lives v d w a x e p) (not-alive-at N lives v d o b y q) (f ∙ sym e)
forks_of N lives v d w o a b r x y (ForkLinks.only_other p q e f) = Forks.only_other (alive-at N lives v d o b y e q) (not-alive-at N lives v d w a x p) (f ∙ sym e)
forks_of N lives v d w o a b r x y (ForkLinks.neither p q e f) = Forks.neither (not-alive-at N lives v d w a x p) (not-alive-at N lives v d o b y q)

-- a word with other links
pub relinked : (word place kind cost : ℕ) (links : Links) (r : ℕ) → LinksFit links → place ≡ place_in word → kind ≡ kind_in word → cost ≡ cost_in word → r ≡ packed place links.next links.other links.into kind cost
    → Relinked word links r
unfolding node_in
relinked word place kind cost links r fit ep ek ec er =
    let fits : Fits place links.next links.other links.into kind cost =
    record { place_lt = omega (arith, ep); next_lt = fit.next; other_lt = fit.other; into_lt = fit.into; kind_lt = omega (arith, ek); cost_lt = omega (arith, ec) } in
    record {
      kind = rw er (kind_of fits ∙ ek);
      address = rw er (address_of_lem fits ∙ ap (λ (z : ℕ). z / 2) ep);
      cost = rw er (cost-of fits ∙ ec);
      next = rw er (next_of fits);
      other = rw er (other-of fits);
      into = rw er (into-of fits);
    }

-- the links of a word, as its node has them
pub next_is : (x : List ℕ) (v w : ℕ) → w ≡ next_in (get_or x v 0) → w ≡ (nodes_in x v).next
unfolding nodes_in node_in
next_is x v w e = e

pub other_is : (x : List ℕ) (v w : ℕ) → w ≡ other_in (get_or x v 0) → w ≡ (nodes_in x v).other
unfolding nodes_in node_in
other_is x v w e = e

pub into_is : (x : List ℕ) (v w : ℕ) → w ≡ into_in (get_or x v 0) → w ≡ (nodes_in x v).into
unfolding nodes_in node_in
into_is x v w e = e

pub forks_at : (N : Numbering) (lives : List ℕ) (v d w o w' o' a b : ℕ) (r : Links) → w ≡ w' → o ≡ o' → NodeTo N v d w a → NodeTo N v d o b → ForkLinks lives a b r → Forks N (HasEnd lives) v d w' o' r.next r.other
forks_at N lives v d w o w' o' a b r e f x y p = rw (← e, ← f) (forks_of N lives v d w o a b r x y p)

-- the word of a node, by the kind of its place
module _ (x l ms bs lives : List ℕ) (v d : ℕ) (links : Links) (r k : ℕ) (kind : (nodes_in x v).kind ≡ k) (fit : LinksFit links) (again : Relinked (get_or x v 0) links r) where
  fit_word : ((node_in r).next < 32768) × ((node_in r).other < 32768) × ((node_in r).into < 32768)
  fit_word = (omega (arith, again.next, fit.next), omega (arith, again.other, fit.other), omega (arith, again.into, fit.into))

  word-with : ((nodes_in x v).kind ≡ 1 → Forks (numbering_of x l ms bs) (HasEnd lives) v d (nodes_in x v).next (nodes_in x v).other (node_in r).next (node_in r).other)
      → ((nodes_in x v).kind ≡ 3 → ((node_in r).next ≡ led_to (numbering_of x l ms bs) v d (nodes_in x v).next) × ((node_in r).other ≡ (node_in r).next) × ((node_in r).into ≡ first_node (numbering_of x l ms bs) (nodes_in x v).into))
      → PrunedIs x l ms bs lives v d r
  unfolding nodes_in
  word-with forks call = record { kind = again.kind; address = again.address; cost = again.cost; fits = fit_word; forks = forks; call = call }

  pub pruned-fork : k ≡ 1 → Forks (numbering_of x l ms bs) (HasEnd lives) v d (nodes_in x v).next (nodes_in x v).other links.next links.other → PrunedIs x l ms bs lives v d r
  pruned-fork e f = word-with (λ z. rw (again.next, again.other) f) (λ z. absurd (omega (arith, z, kind, e)))

  pub pruned-call : k ≡ 3 → (links.next ≡ led_to (numbering_of x l ms bs) v d (nodes_in x v).next) → links.other ≡ links.next → links.into ≡ first_node (numbering_of x l ms bs) (nodes_in x v).into
      → PrunedIs x l ms bs lives v d r
  pruned-call e n o i = word-with (λ z. absurd (omega (arith, z, kind, e))) (λ z. (again.next ∙ n, again.other ∙ o ∙ sym again.next, again.into ∙ i))

  pub pruned-end : (k ≡ 1 → ⊥) → (k ≡ 3 → ⊥) → PrunedIs x l ms bs lives v d r
  pruned-end a b = word-with (λ z. absurd (a (sym kind ∙ z))) (λ z. absurd (b (sym kind ∙ z)))
