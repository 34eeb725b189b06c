-- There is one way; along it what is left to spend falls; and its bytes are written place by place.
use mathlib.Core.Path.{◌≡◌, refl, sym, ap, ◌∙◌}
use mathlib.Core.List.{List, [], ◌∷◌, ◌++◌, append_assoc}
use Prim.Native.Nat.{ℕ, suc, ◌+◌, ◌*◌, ◌≤◌, ◌<◌}
use native.Mathlib.Omega.{arith}
use lib.ListN.{length, get_or, length-append}
use Rattle.graph.specs.Graph.{Graph}
use Rattle.graph_search.proofs.Zeros.{marked_lt}
use Rattle.routines_paths.specs.Way.{pending, Positive, Falls, ends, forks, calls, Fall, Move, to_next, to_other, into, back, Route, last, move, Roomy, Writing, Written}
use Rattle.routines.specs.Answer.{bytes_of}
use Rattle.routines_paths.proofs.place.Bytes.{Put, put-more}

-- there is one move only
move_unique : {g : Graph} {d ks ks₁ ks₂ : List ℕ} {v w₁ w₂ : ℕ} → Move g d ks v ks₁ w₁ → Move g d ks v ks₂ w₂ → (ks₁ ≡ ks₂) × (w₁ ≡ w₂)
move_unique (to_next k e h) (to_next k' e' h') = (refl, e ∙ sym e')
move_unique (to_next k e h) (to_other k' e' h') = absurd (omega arith)
move_unique (to_next k e h) (into k' e' h') = absurd (omega arith)
move_unique (to_next k e h) (back k') = absurd (omega arith)
move_unique (to_other k e h) (to_next k' e' h') = absurd (omega arith)
move_unique (to_other k e h) (to_other k' e' h') = (refl, e ∙ sym e')
move_unique (to_other k e h) (into k' e' h') = absurd (omega arith)
move_unique (to_other k e h) (back k') = absurd (omega arith)
move_unique (into k e h) (to_next k' e' h') = absurd (omega arith)
move_unique (into k e h) (to_other k' e' h') = absurd (omega arith)
move_unique {ks = ks} (into k e h) (into k' e' h') = (ap (λ (x : ℕ). x ∷ ks) (h ∙ sym h'), e ∙ sym e')
move_unique (into k e h) (back k') = absurd (omega arith)
move_unique (back k) (to_next k' e' h') = absurd (omega arith)
move_unique (back k) (to_other k' e' h') = absurd (omega arith)
move_unique (back k) (into k' e' h') = absurd (omega arith)
move_unique (back k) (back k') = (refl, refl)

-- it does not lead on from the end
move_end : {g : Graph} {d ks : List ℕ} {v w : ℕ} → g.kind v ≡ 2 → Move g d [] v ks w → ⊥
move_end z (to_next k e h) = omega arith
move_end z (to_other k e h) = omega arith
move_end z (into k e h) = omega arith

pub route_after : {g : Graph} {d ks ks' : List ℕ} {v w : ℕ} {l : List ℕ} → Move g d ks v ks' w → Route g d ks v l → (t : List ℕ) × (l ≡ v ∷ t) × Route g d ks' w t
route_after m (last k) = absurd (move_end k m)
route_after {g} {d} m (move {l = l} m' r) = let e = move_unique m m' in (l, refl, rw (e.0, e.1) r)

pub route_end : {g : Graph} {d : List ℕ} {v : ℕ} {l : List ℕ} → g.kind v ≡ 2 → Route g d [] v l → l ≡ v ∷ []
route_end z (last k) = refl
route_end z (move m r) = absurd (move_end z m)

-- each open call has yet to end
pub route_length : {g : Graph} {d ks : List ℕ} {v : ℕ} {l : List ℕ} → Route g d ks v l → length ks < length l
route_length (last k) = omega arith
route_length (move (to_next k e h) r) = omega (arith, route_length r)
route_length (move (to_other k e h) r) = omega (arith, route_length r)
route_length (move (into k e h) r) = omega (arith, route_length r)
route_length (move (back k) r) = omega (arith, route_length r)

-- after a move: what is left is less, and something everywhere; at most one call more is open
pub record Moved (d ks : List ℕ) (v : ℕ) (ks' : List ℕ) (w : ℕ) : Type 0 where
  pub has : 0 < get_or d w 0
  pub positive : Positive d ks'
  pub less : get_or d w 0 + pending d ks' < get_or d v 0 + pending d ks
  pub opens : length ks' ≤ suc (length ks)

pub moved : {g : Graph} {d ks ks' : List ℕ} {v w : ℕ} → Fall g d → 0 < get_or d v 0 → Positive d ks → Move g d ks v ks' w → Moved d ks v ks' w
unfolding pending Positive
moved {g} {d} {ks} {v = v} fall has pos (to_next {w = w} k e h) = rw e (go (fall.at v has))
  where
    go : Falls g d v → Moved d ks v ks (g.next v)
    go (ends z) = absurd (omega arith)
    go (forks z a b x y) = record { has = a; positive = pos; less = omega arith; opens = omega arith }
    go (calls z a b x) = absurd (omega arith)
moved {g} {d} {ks} {v = v} fall has pos (to_other {w = w} k e h) = rw e (go (fall.at v has))
  where
    go : Falls g d v → Moved d ks v ks (g.other v)
    go (ends z) = absurd (omega arith)
    go (forks z a b x y) = record { has = x; positive = pos; less = omega arith; opens = omega arith }
    go (calls z a b x) = absurd (omega arith)
moved {g} {d} {ks} {v = v} fall has pos (into {w = w} {x = x} k e h) = rw (e, h) (go (fall.at v has))
  where
    go : Falls g d v → Moved d ks v (g.other v ∷ ks) (g.next v)
    go (ends z) = absurd (omega arith)
    go (forks z a b x y) = absurd (omega arith)
    go (calls z a b x) = record { has = a; positive = (b, pos); less = omega arith; opens = omega arith }
moved {d = d} fall has pos (back {ks = ks} {v = v} {w = w} k) = record { has = pos.0; positive = pos.1; less = omega arith; opens = omega arith }

pub writing_start : {g : Graph} (address : ℕ → ℕ) {d p : List ℕ} {s stack : ℕ} → 0 < get_or d s 0 → Roomy g d s p stack → Writing g address d s p stack p [] s 0
unfolding bytes_of Positive
writing_start address h r =
    record { route = r.route; is = r.is; fits = r.fits; few = r.few; pre = []; rest = r.route; split = refl; rest_is = r.is; at_is = refl; bytes = refl; has = h; positive = tt; opens = omega arith }

module _ {g : Graph} {address : ℕ → ℕ} {d p p' ks : List ℕ} {s v at stack : ℕ} (wr : Writing g address d s p stack p' ks v at) where
  pub writing-room : at + 2 ≤ length p
  writing-room = omega (arith, wr.at_is, wr.fits, ap length wr.split, length-append wr.pre wr.rest, route_length wr.rest_is)

  pub writing-stack : length ks < stack
  writing-stack = omega (arith, wr.few, wr.opens, ap length wr.split, length-append wr.pre wr.rest, route_length wr.rest_is)

  pub writing-lt : v < length d
  writing-lt = marked_lt d v wr.has

  pub writing_more : Fall g d → {w : ℕ} {ks' p'' : List ℕ} → Move g d ks v ks' w → Put address p' at v p'' → Writing g address d s p stack p'' ks' w (at + 2)
  writing_more f m e =
      let y = route_after m wr.rest_is in
      let z = moved f wr.has wr.positive m in
      record {
        route = wr.route;
        is = wr.is;
        fits = wr.fits;
        few = wr.few;
        pre = wr.pre ++ (v ∷ []);
        rest = y.0;
        split = wr.split ∙ ap (λ (l : List ℕ). wr.pre ++ l) y.1 ∙ sym (append_assoc wr.pre (v ∷ []) y.0);
        rest_is = y.2;
        at_is = omega (arith, wr.at_is, length-append wr.pre (v ∷ []));
        bytes = put-more address p wr.pre at v wr.bytes wr.at_is writing-room e;
        has = z.has;
        positive = z.positive;
        opens = omega (arith, z.opens, wr.opens, length-append wr.pre (v ∷ []));
      }

  pub writing_end : ks ≡ [] → g.kind v ≡ 2 → {p'' : List ℕ} → Put address p' at v p'' → Written g address d s p p''
  writing_end none k e =
      let all : wr.route ≡ wr.pre ++ (v ∷ []) = wr.split ∙ ap (λ (l : List ℕ). wr.pre ++ l) (route_end k (rw none at wr.rest_is)) in
      let n : 2 * length (wr.pre ++ (v ∷ [])) ≡ at + 2 = omega (arith, wr.at_is, length-append wr.pre (v ∷ [])) in
      record { route = wr.route; is = wr.is; room = wr.fits; bytes = rw (all, n) (put-more address p wr.pre at v wr.bytes wr.at_is writing-room e) }
