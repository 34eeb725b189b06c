-- Nodes that are laid so, for each place that is reached and each of its numbers, are the flow linked and pruned.
use mathlib.Core.Path.{◌≡◌, refl, sym, ap, ◌∙◌}
use mathlib.Core.Logic.{inl, inr}
use mathlib.Core.Bool.{Bool, true, false}
use mathlib.Core.List.{List, [], ◌∷◌}
use Prim.Native.Nat.{ℕ, ◌+◌, ◌/◌, ◌<◌}
use native.Mathlib.Omega.{arith}
use Rattle.laws.specs.Choice.{pick}
use Rattle.laws.proofs.Computed.{true→T}
use Rattle.graph.specs.Graph.{Edge}
use Rattle.graph.proofs.Reach.{reach_snoc}
use Rattle.routines.specs.Calling.{Flow, Routine, after, within}
use Rattle.routines.specs.Losing.{Loses}
use Rattle.routines.proofs.Within.{edge_on, edge-call}
use Rattle.counts.specs.Counts.{Count, Numbers, none, used, Fits}
use Rattle.counts.specs.Weights.{Reached, Weighs}
use Rattle.counts.specs.CountedAnswer.{Given}
use Rattle.counts.specs.Radix.{size, digits, fits_in, moved, Masks}
use Rattle.counts.specs.Unrolled.{Leads, Dead, Turns, Led, Linked, Ways, Pruned}
use Rattle.counts.specs.Laying.{Numbering, fits_to, node_to, led_to, first_node, LinkedAt, Alive, NotAlive, Forks, PrunedAt}
use Rattle.counts.proofs.Radix.{Wanted, digits_lt, moved_is, fits-so, fits-back}
use Rattle.counts.proofs.Good.{Good, allowed, wanted}

-- no number weighs by the mask 0, and all are 0
pub none_wanted : (a : ℕ) (C : List Count) (there : ℕ) → Wanted none a C 0 there
none_wanted a [] there = Wanted.none
none_wanted a (c ∷ C) there = Wanted.zero_there refl refl (none_wanted a C (there / 2))

pub digits_none : (C : List Count) → digits C 0 none ≡ 0
unfolding digits
digits_none [] = refl
digits_none (c ∷ C) = digits_none C

-- the first row of a routine fits: a count is 1 or more
pub first_fits : {C : List Count} → Given C → (a : ℕ) → fits_in C 0 a 0 ≡ true
first_fits {C} given a =
    let e = fits-back (λ x. x) a C {mask = 0} {there = 0} {u = none} (record { at = λ c m. omega arith }) (none_wanted a C 0) (λ c m z. omega (arith, (allowed given.ascending c m).some)) in
    ap (λ (z : ℕ). fits_in C 0 a z) (sym (digits_none C)) ∙ e

module _ (f : Flow) (K : ℕ → Bool) (N : Numbering) (masks : (v : ℕ) → Reached f K v → Masks (Weighs f K N.address v) N.counts (N.mask v)) where
  abbrev C : List Count
  C = N.counts

  abbrev node : ℕ → Numbers → ℕ
  node v u = N.base v + digits C (N.mask v) u

  abbrev Fine : ℕ → Numbers → Type 0
  Fine = Good f K N.address C

  abbrev Steps : ℕ → ℕ → Type 0
  Steps v w = (r : Routine) → Edge (within f K r) v w

  -- a step from v to w, and the place w
  module _ {v w : ℕ} {u : Numbers} (good : Fine v u) (s : Steps v w) (to : Reached f K w) where
    needs : Wanted u (N.address w) C (N.mask v) (N.mask w)
    needs = wanted f K N.address C good s (masks v good.reached) (masks w to)

    so-fits : fits_to N v (digits C (N.mask v) u) w ≡ true → Fits N.address C u w
    so-fits e = fits-so N.address w good.ranged needs e

    fits-back-to : Fits N.address C u w → fits_to N v (digits C (N.mask v) u) w ≡ true
    fits-back-to e = fits-back N.address w C good.ranged needs e

    node-is : node_to N v (digits C (N.mask v) u) w ≡ node w (used N.address u w)
    node-is = ap (λ (x : ℕ). N.base w + x) (moved_is N.address w good.ranged needs)

    led : {y : ℕ} → y ≡ led_to N v (digits C (N.mask v) u) w → Led N.address C node u w (node v u) y
    led {y} e = go (fits_to N v (digits C (N.mask v) u) w) refl e
      where
        go : (b : Bool) → fits_to N v (digits C (N.mask v) u) w ≡ b → y ≡ pick b (node_to N v (digits C (N.mask v) u) w) (node v u) → Led N.address C node u w (node v u) y
        go true z e = Led.goes (so-fits z) (e ∙ node-is)
        go false z e = Led.stays (λ fits. true→T (sym z ∙ fits-back-to fits)) e

    alive : {M : ℕ → Type 0} {y : ℕ} → Alive N M v (digits C (N.mask v) u) w y → Leads N.address C node M u w y
    alive a = record { fits = so-fits a.fits; is = a.is ∙ node-is; ends = rw node-is at a.ends }

    not-alive : (M : ℕ → Type 0) → NotAlive N M v (digits C (N.mask v) u) w → Dead N.address C node M u w
    not-alive M n fits m = n (fits-back-to fits) (rw node-is m)

  first-is : (w : ℕ) → first_node N w ≡ node w (used N.address none w)
  first-is w =
      let e = moved_is N.address w {u = none} {C = C} {mask = 0} {there = N.mask w} (record { at = λ c m. omega arith }) (none_wanted (N.address w) C (N.mask w)) in
      ap (λ (x : ℕ). N.base w + x) (ap (λ (z : ℕ). moved C 0 (N.mask w) (N.address w) z) (sym (digits_none C)) ∙ e)

  -- what follows is reached too
  on-reached : {v w : ℕ} → Reached f K v → Steps v w → Reached f K w
  on-reached (r, l, i) s = (r, l, reach_snoc i (s r))

  module _ {h : Flow} (laid : (v d : ℕ) → Reached f K v → d < size C (N.mask v) → LinkedAt f K N h v d) where
    at : {v : ℕ} {u : Numbers} → Fine v u → LinkedAt f K N h v (digits C (N.mask v) u)
    at {v} {u} good = laid v (digits C (N.mask v) u) good.reached (digits_lt C (N.mask v) u good.ranged)

    by_next : {v : ℕ} → f.kind v ≡ 1 → Steps v (f.next v)
    by_next k r = edge_on f K r k (inl refl)

    by_other : {v : ℕ} → f.kind v ≡ 1 → Steps v (f.other v)
    by_other k r = edge_on f K r k (inr refl)

    by_call : {v : ℕ} → f.kind v ≡ 3 → Steps v (after f K v)
    by_call k r = edge-call f K r k

    pub linked : Linked f K N.address C Fine node h
    linked =
        record {
          end = λ good k. (at good).end k;
          on = λ good k. ((at good).on k).0;
          next = λ {v} good k. led good (by_next k) (on-reached good.reached (by_next k)) ((at good).on k).1;
          other = λ {v} good k. led good (by_other k) (on-reached good.reached (by_other k)) ((at good).on k).2;
          call = λ good k. ((at good).call k).0;
          first = λ {v} good k. ((at good).call k).3 ∙ first-is (f.from (f.entry v));
          past = λ good k. led good (by_call k) (on-reached good.reached (by_call k)) ((at good).call k).1;
          itself = λ good k. ((at good).call k).2;
        }

    module _ {g : Flow} {L : ℕ → Bool} (start : g.start ≡ first_node N f.start) (left : (v d : ℕ) → Reached f K v → d < size C (N.mask v) → PrunedAt f K N (Loses h) g L v d) where
      now : {v : ℕ} {u : Numbers} → Fine v u → PrunedAt f K N (Loses h) g L v (digits C (N.mask v) u)
      now {v} {u} good = left v (digits C (N.mask v) u) good.reached (digits_lt C (N.mask v) u good.ranged)

      ways : {v : ℕ} {u : Numbers} → Fine v u → f.kind v ≡ 1 → {y z : ℕ} → Forks N (Loses h) v (digits C (N.mask v) u) (f.next v) (f.other v) y z → Ways f N.address C node (Loses h) v u y z
      ways {v} {u} good k x = go x
        where
          n : Reached f K (f.next v)
          n = on-reached good.reached (by_next k)

          o : Reached f K (f.other v)
          o = on-reached good.reached (by_other k)

          go : {y z : ℕ} → Forks N (Loses h) v (digits C (N.mask v) u) (f.next v) (f.other v) y z → Ways f N.address C node (Loses h) v u y z
          go (Forks.both a b) = Ways.some (Turns.both (alive good (by_next k) n a) (alive good (by_other k) o b))
          go (Forks.only_next a b e) = Ways.some (Turns.only_next (alive good (by_next k) n a) (not-alive good (by_other k) o (Loses h) b) e)
          go (Forks.only_other a b e) = Ways.some (Turns.only_other (alive good (by_other k) o a) (not-alive good (by_next k) n (Loses h) b) e)
          go (Forks.neither a b) = Ways.neither (not-alive good (by_next k) n (Loses h) a) (not-alive good (by_other k) o (Loses h) b)

      pub pruned : Pruned f K N.address C Fine node h g L
      pruned =
          record {
            start = start ∙ first-is f.start;
            kind = λ good. (now good).kind;
            ways = λ good k. ways good k ((now good).forks k);
            entry = λ good k. ((now good).call k).0;
            first = λ {v} good k. ((now good).call k).1 ∙ first-is (f.from (f.entry v));
            past = λ good k. led good (by_call k) (on-reached good.reached (by_call k)) ((now good).call k).2;
          }
