-- Where the sums fall there is a way, and it has no more places than its sum.
use mathlib.Core.Path.{◌≡◌, refl, ap}
use mathlib.Core.List.{List, [], ◌∷◌}
use Prim.Native.Nat.{ℕ, zero, suc, ◌+◌, ◌*◌, ◌≤◌, ◌<◌}
use native.Mathlib.Omega.{arith}
use native.Mathlib.Decide.{dec_lt}
use lib.ListN.{length, get_or}
use Rattle.graph.specs.Graph.{Graph}
use Rattle.graph_search.proofs.Zeros.{marked_lt}
use Rattle.routines_paths.specs.Way.{pending, Positive, Falls, ends, forks, calls, Fall, Move, to_next, to_other, into, back, Route, last, move, LengthIs, Along}
use Rattle.routines_paths.proofs.route.Ways.{moved, route_after, route_end, route_length}

module _ {g : Graph} {d : List ℕ} (fall : Fall g d) where
  Some : List ℕ → ℕ → Type 0
  Some ks v = (l : List ℕ) × Route g d ks v l × (length l ≤ get_or d v 0 + pending d ks)

  -- after a move
  some-move : {ks ks' : List ℕ} {v w : ℕ} → 0 < get_or d v 0 → Positive d ks → Move g d ks v ks' w → Some ks' w → Some ks v
  unfolding Some
  some-move {v = v} has pos m x = let y = moved fall has pos m in (v ∷ x.0, move m x.1, omega (arith, x.2, y.less))

  route-some : (k : ℕ) (ks : List ℕ) (v : ℕ) → get_or d v 0 + pending d ks ≤ k → 0 < get_or d v 0 → Positive d ks → Some ks v
  unfolding Some pending Positive
  route-some zero ks v le has pos = absurd (omega arith)
  route-some (suc k) ks v le has pos = go ks le pos (fall.at v has) (λ ks' w m pos. let y = moved fall has pos m in some-move has pos m (route-some k ks' w (omega (arith, y.less, le)) y.has y.positive))
    where
      go : (ks : List ℕ) → get_or d v 0 + pending d ks ≤ suc k → Positive d ks → Falls g d v → ((ks' : List ℕ) (w : ℕ) → Move g d ks v ks' w → Positive d ks → Some ks v) → Some ks v
      go [] le pos (ends z) ih = (v ∷ [], last z, omega arith)
      go (w ∷ ks) le pos (ends z) ih = ih ks w (back z) pos
      go ks le pos (forks z a b x y) ih = turn (dec_lt (get_or d (g.next v) 0) (get_or d (g.other v) 0))
        where
          turn : Dec (get_or d (g.next v) 0 < get_or d (g.other v) 0) → Some ks v
          turn (yes h) = ih ks (g.other v) (to_other z refl h) pos
          turn (no h) = ih ks (g.next v) (to_next z refl (omega arith)) pos
      go ks le pos (calls z a b x) ih = ih (g.other v ∷ ks) (g.next v) (into z refl refl) pos

pub along_start : {g : Graph} {d : List ℕ} (s : ℕ) → Fall g d → 0 < get_or d s 0 → Along g d s [] s 1
unfolding Some pending Positive
along_start {g} {d} s fall h =
    let x = route-some fall (get_or d s 0) [] s (omega arith) h tt in
    record { route = x.0; is = x.1; most = omega (arith, x.2); rest = x.0; rest_is = x.1; count = omega arith; has = h; positive = tt; opens = omega arith }

pub along_more : {g : Graph} {d ks ks' : List ℕ} {s v w n : ℕ} → Fall g d → Along g d s ks v n → Move g d ks v ks' w → Along g d s ks' w (n + 1)
along_more fall a m =
    let y = route_after m a.rest_is in
    let z = moved fall a.has a.positive m in
    record {
      route = a.route;
      is = a.is;
      most = a.most;
      rest = y.0;
      rest_is = y.2;
      count = omega (arith, a.count, ap length y.1);
      has = z.has;
      positive = z.positive;
      opens = omega (arith, z.opens, a.opens);
    }

pub along_end : {g : Graph} {d ks : List ℕ} {s v n : ℕ} → Along g d s ks v n → ks ≡ [] → g.kind v ≡ 2 → LengthIs g d s n
along_end a none k =
    let e = ap length (route_end k (rw none at a.rest_is)) in
    record { route = a.route; is = a.is; len = omega (arith, a.count, e); most = omega (arith, a.count, a.most, e) }

pub along_stack : {g : Graph} {d ks : List ℕ} {s v n : ℕ} (stack : ℕ) → Along g d s ks v n → get_or d s 0 ≤ 2 * stack → length ks < stack
along_stack stack a h = omega (arith, a.count, a.most, a.opens, route_length a.rest_is)

pub along_few : {g : Graph} {d ks : List ℕ} {s v n : ℕ} → Along g d s ks v n → n ≤ get_or d s 0
along_few a = omega (arith, a.count, a.most, route_length a.rest_is)

pub along_lt : {g : Graph} {d ks : List ℕ} {s v n : ℕ} → Along g d s ks v n → v < length d
along_lt {d = d} {v = v} a = marked_lt d v a.has
