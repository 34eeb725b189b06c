-- A flow that is linked by its steps, and then left without the ways that lead to no end, is the flow unrolled.
use mathlib.Core.Path.{◌≡◌, refl, ap, ◌∙◌}
use mathlib.Core.Logic.{◌⊎◌, inl, inr}
use mathlib.Core.Bool.{Bool}
use mathlib.Core.List.{List}
use Prim.Native.Nat.{ℕ}
use native.Mathlib.Omega.{arith}
use Rattle.routines.specs.Calling.{Flow, after}
use Rattle.routines.specs.Losing.{Loses, returns, by_next, by_other, past_known, past_unknown}
use Rattle.counts.specs.Counts.{Count, Numbers, none, used, Fits}
use Rattle.counts.specs.Unrolled.{Dead, Turns, Enters, Unrolls, Led, goes, stays, Linked, Ways, some, neither, Pruned, Nodes}

module _ {f : Flow} {K : ℕ → Bool} {address : ℕ → ℕ} {C : List Count} {Good : ℕ → Numbers → Type 0} {node : ℕ → Numbers → ℕ} {h : Flow} (a : Linked f K address C Good node h) where
  -- the step to w leads to where an end is reached
  pub record Ends (u : Numbers) (w : ℕ) : Type 0 where
    pub fits : Fits address C u w
    pub loses : Loses h (node w (used address u w))

  abbrev Way : ℕ → Numbers → Type 0
  Way v u = Ends u (f.next v) ⊎ Ends u (f.other v)

  led-ends : {u : Numbers} {w x y : ℕ} → Led address C node u w x y → Loses h y → Ends u w ⊎ (y ≡ x)
  led-ends (goes fits e) d = inl (record { fits = fits; loses = rw e at d })
  led-ends (stays no-fit e) d = inr e

  -- of a fork from which an end is reached one way leads there
  fork : {v x : ℕ} {u : Numbers} → Good v u → f.kind v ≡ 1 → Loses h x → x ≡ node v u → Way v u
  fork good k (returns c n) e = absurd (omega (arith, c, ap h.kind e, a.on good k))
  fork {v} {u = u} good k (by_next {v = x} c d) e = go (led-ends (a.next good k) (rw e at d)) (λ z. fork good k d (ap h.next e ∙ z))
    where
      go : Ends u (f.next v) ⊎ (h.next (node v u) ≡ node v u) → (h.next (node v u) ≡ node v u → Way v u) → Way v u
      go (inl z) again = inl z
      go (inr z) again = again z
  fork {v} {u = u} good k (by_other {v = x} c d) e = go (led-ends (a.other good k) (rw e at d)) (λ z. fork good k d (ap h.other e ∙ z))
    where
      go : Ends u (f.other v) ⊎ (h.other (node v u) ≡ node v u) → (h.other (node v u) ≡ node v u → Way v u) → Way v u
      go (inl z) again = inr z
      go (inr z) again = again z
  fork good k (past_known c d) e = absurd (omega (arith, c, ap h.kind e, a.on good k))
  fork good k (past_unknown c d d') e = absurd (omega (arith, c, ap h.kind e, a.on good k))

  -- of a call from which one is reached both its routine and what comes after lead to theirs
  pub record Returning (v : ℕ) (u : Numbers) : Type 0 where
    pub first : Loses h (node (f.from (f.entry v)) (used address none (f.from (f.entry v))))
    pub past : Ends u (after f K v)

  entered : {v x : ℕ} {u : Numbers} → Good v u → f.kind v ≡ 3 → Loses h x → x ≡ node v u → Returning v u
  entered good k (returns c n) e = absurd (omega (arith, c, ap h.kind e, a.call good k))
  entered good k (by_next c d) e = absurd (omega (arith, c, ap h.kind e, a.call good k))
  entered good k (by_other c d) e = absurd (omega (arith, c, ap h.kind e, a.call good k))
  entered good k (past_known c d) e = entered good k d (ap h.other e ∙ a.itself good k)
  entered {v} {u = u} good k (past_unknown {v = x} c d d') e =
      let first : Loses h (node (f.from (f.entry v)) (used address none (f.from (f.entry v)))) = rw (ap (λ (y : ℕ). h.from (h.entry y)) e ∙ a.first good k) at d in
      go first (led-ends (a.past good k) (rw e at d')) (λ z. entered good k d' (ap h.next e ∙ z))
    where
      go : Loses h (node (f.from (f.entry v)) (used address none (f.from (f.entry v)))) → Ends u (after f K v) ⊎ (h.next (node v u) ≡ node v u) → (h.next (node v u) ≡ node v u → Returning v u) → Returning v u
      go first (inl z) again = record { first = first; past = z }
      go first (inr z) again = again z

  led-is : {u : Numbers} {w x y : ℕ} → Led address C node u w x y → Fits address C u w → y ≡ node w (used address u w)
  led-is (goes fits e) z = e
  led-is (stays no-fit e) z = absurd (no-fit z)

  module _ {g : Flow} {L : ℕ → Bool} (nodes : Nodes f K address C Good node) (b : Pruned f K address C Good node h g L) where
    pub unrolled : Unrolls f K address C Good node (Loses h) g L
    unrolled =
        record {
          one = nodes.one;
          numbers = nodes.numbers;
          start = b.start;
          kind = λ good m. b.kind good;
          ends = λ good k. let x = a.end good k in returns x.0 x.1;
          by_step = step;
          by_call = λ good k first fits past. past_unknown (a.call good k) (rw (a.first good k) first) (rw (led-is (a.past good k) fits) past);
          turns = λ good m k. turn good k m (b.ways good k);
          enters = enter;
        }
      where
        step : {v w : ℕ} {u : Numbers} → Good v u → f.kind v ≡ 1 → (w ≡ f.next v) ⊎ (w ≡ f.other v) → Fits address C u w → Loses h (node w (used address u w)) → Loses h (node v u)
        step good k (inl e) fits m = by_next (a.on good k) (rw (led-is (a.next good k) (rw e at fits)) (rw e at m))
        step good k (inr e) fits m = by_other (a.on good k) (rw (led-is (a.other good k) (rw e at fits)) (rw e at m))

        no_way : {v : ℕ} {u : Numbers} → Dead address C node (Loses h) u (f.next v) → Dead address C node (Loses h) u (f.other v) → Way v u → ⊥
        no_way dead dead' (inl x) = dead x.fits x.loses
        no_way dead dead' (inr x) = dead' x.fits x.loses

        turn : {v y z : ℕ} {u : Numbers} → Good v u → f.kind v ≡ 1 → Loses h (node v u) → Ways f address C node (Loses h) v u y z → Turns f address C node (Loses h) v u y z
        turn good k m (some t) = t
        turn good k m (neither dead dead') = absurd (no_way dead dead' (fork good k m refl))

        enter : {v : ℕ} {u : Numbers} → Good v u → Loses h (node v u) → f.kind v ≡ 3 → Enters f K address C node (Loses h) v u (g.entry (node v u)) (g.from (g.entry (node v u))) (after g L (node v u))
        enter good m k =
            let x = entered good k m refl in
            let p = x.past in
            record { entry = b.entry good k; first = b.first good k; first_ends = x.first; past = record { fits = p.fits; is = led-is (b.past good k) p.fits; ends = p.loses } }
