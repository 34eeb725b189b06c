-- A sound handler whose sums and depths are settled: 25, 23, or N and the depth with their paths.
use mathlib.Core.Path.{◌≡◌, refl}
use Rattle.std.specs.Prelude.{Result, Ok, Err}
use mathlib.Core.List.{List, []}
use Prim.Native.Nat.{ℕ, ◌*◌, ◌<◌}
use native.Mathlib.Omega.{arith}
use lib.ListN.{length, get_or}
use Rattle.graph.specs.Graph.{sum}
use Rattle.graph_search.proofs.Zeros.{marked_lt}
use Rattle.routines.specs.Calling.{Flow, outer, unknown, IsBad, IsLoop, HandlerPath, depth, FirstOf}
use Rattle.routines.specs.Answer as answer
use Rattle.routines.specs.Answer.{bytes_of, HasBound, gives_21, gives_22, gives_25, gives_23, gives_23_depth, gives_n, FlowAnswer, bounded}
use Rattle.routines.proofs.Done.{Done, done, in-lt}
use Rattle.routines.proofs.Exists.{first-of-handler}
use Rattle.routines_joined.specs.Words.{flow_at}
use Rattle.routines_joined.specs.Refused.{address_in, Judges}
use Rattle.routines_joined.specs.declared.Unsound.{Unsound}
use Rattle.routines_joined.proofs.Nodes.{small}
use Rattle.routines_sums.specs.Dist.{Dist}
use Rattle.routines_sums.specs.Ways.{ways_in, costs_in, Priced, IdleTo}
use Rattle.routines_sums.proofs.Settling.{cost_pos}
use Rattle.routines_paths.specs.Way as way
use Rattle.routines_paths.specs.Way.{Fall}
use Rattle.routines_paths.specs.Deep as deep
use Rattle.routines_paths.specs.Paths.{Short, Written, first_short, second_short}
use Rattle.routines_bound.specs.Handler.{unbounded_of, found_of, Words, Settles, JudgedBy, Comes, Measured}
use Rattle.routines_bound.specs.declared.Greatest.{Greatest}
use Rattle.routines_bound.specs.declared.Unbounded.{Unbounded}
use Rattle.routines_bound.proofs.Ways.{Ways, ways-of}
use Rattle.routines_bound.proofs.Settled.{fall_of, sums-of, depths-of, over}
use Rattle.routines_bound.proofs.Routes.{longest-is, deepest_is}

-- what settling and the paths ask for
pub priced : {x m : List ℕ} {n : ℕ} → Words x m n → Priced x n
priced w = record { words = w.laid.words; few = w.laid.few; links = w.laid.links; pos = w.pays }

pub falls : {x d dep : List ℕ} → Priced x (length d) → Dist (ways_in x) (costs_in x) d dep → Fall (ways_in x) d
falls {d = d} p dist = fall_of dist (λ v h. cost_pos p v (marked_lt d v h))

-- 21 and 22
pub unsound_answer : {x m : List ℕ} (u : Unsound) → JudgedBy x m (Err u) → (p q : List ℕ) → FlowAnswer (flow_at x m) (costs_in x) (address_in x) p p q q unknown (found_of (Err (unbounded_of u)))
unfolding Judges
unsound_answer (Unsound.Excluded a) by p q = gives_21 by.is.lowest (record { first = refl; second = refl })
unsound_answer (Unsound.Repeats a) by p q = gives_22 by.is.no_bad by.is.lowest (record { first = refl; second = refl })

module _ (x m : List ℕ) {n : ℕ} (settles : Settles x m n) (no_bad : (v : ℕ) → IsBad (flow_at x m) unknown v → ⊥) (no_loop : (v : ℕ) → IsLoop (flow_at x m) unknown v → ⊥) where
  abbrev f : Flow
  f = flow_at x m

  ways : Ways f unknown (ways_in x)
  ways = ways-of x m settles.words.laid settles.words.first no_bad

  ends : Done f unknown outer f.start
  ends = done f unknown (small x m settles.words.laid) settles.words.widens settles.none no_bad no_loop

  -- some first path by any measure
  bound_of : {l t : List ℕ} → FirstOf f (HandlerPath f unknown) (sum (costs_in x)) l → FirstOf f (HandlerPath f unknown) (depth f) t → HasBound f (costs_in x) unknown (sum (costs_in x) l) (depth f t) l t
  bound_of a b = record { no_bad = no_bad; no_loop = no_loop; longest = a; sum = refl; deepest = b; depth = refl }

  module _ (d dep : List ℕ) (dist : Dist (ways_in x) (costs_in x) d dep) where
    too_large : IdleTo (ways_in x) (costs_in x) d n → (p q : List ℕ) → get_or d f.start 0 ≡ 0 → FlowAnswer f (costs_in x) (address_in x) p p q q unknown answer.too_large
    too_large idle p q z =
        let a = first-of-handler ends (sum (costs_in x)) in
        let b = first-of-handler ends (depth f) in
        let y = over f unknown (ways_in x) (costs_in x) d dep ways dist (λ r v l i. idle.at v (in-lt f unknown (small x m settles.words.laid) l i)) ends z in
        bounded (bound_of a.1 b.1) (gives_25 (omega (arith, a.1.most y.0 y.1, y.2)) (record { first = refl; second = refl }))

    module _ (has : 0 < get_or d f.start 0) where
      path-of : {l : List ℕ} → way.Route (ways_in x) d [] f.start l → FirstOf f (HandlerPath f unknown) (sum (costs_in x)) l × (sum (costs_in x) l ≡ get_or d f.start 0)
      path-of p = longest-is f unknown (ways_in x) d ways (sums-of f unknown (ways_in x) (costs_in x) d dep ways dist has) p

      deep_of : {l : List ℕ} → deep.Route (ways_in x) dep (get_or dep f.start 0) 0 [] f.start l → FirstOf f (HandlerPath f unknown) (depth f) l × (depth f l ≡ get_or dep f.start 0)
      deep_of p = deepest_is f unknown (ways_in x) dep ways (depths-of f unknown (ways_in x) (costs_in x) d dep ways dist has) p

      module _ (p p' q q' : List ℕ) (k : ℕ) where
        short : Short (ways_in x) d dep f.start p p' q q' k → FlowAnswer f (costs_in x) (address_in x) p p' q q' unknown (answer.short k)
        short (first_short l e h a b) =
            let y = path-of l.is in
            let size : k ≡ 2 * length l.route = omega (arith, e, l.len) in
            rw size (bounded (bound_of y.0 (first-of-handler ends (depth f)).1) (gives_23 (omega (arith, y.1, dist.fits f.start)) (omega (arith, h, size)) (record { first = a; second = b })))
        short (second_short l room w e h a b) =
            let y = path-of l.is in
            let t = deep_of w.is in
            let size : k ≡ 2 * length w.route = omega (arith, e, w.len) in
            rw size (bounded (bound_of y.0 t.0) (gives_23_depth (omega (arith, y.1, dist.fits f.start)) (omega (arith, room, l.len)) (omega (arith, h, size)) (record { first = a; second = b })))

        both : Written (ways_in x) (address_in x) d dep f.start p p' q q' → FlowAnswer f (costs_in x) (address_in x) p p' q q' unknown (answer.bounds (get_or d f.start 0) (get_or dep f.start 0))
        both w =
            let y = path-of w.first.is in
            let u = deep_of w.second.is in
            rw (← y.1, ← u.1) (bounded (bound_of y.0 u.0) (gives_n (omega (arith, y.1, dist.fits f.start)) w.first.room w.second.room w.first.bytes w.second.bytes))

  -- what the code comes to is the answer
  pub measured-answer : {p p' q q' : List ℕ} {r : Result Greatest Unbounded} → Measured x n p p' q q' r → FlowAnswer f (costs_in x) (address_in x) p p' q q' unknown (found_of r)
  unfolding flow_at
  measured-answer {p} {p'} {q} {q'} w = go w.comes
    where
      go : {r : Result Greatest Unbounded} → Comes (ways_in x) (address_in x) w.d w.dep p p' q q' r → FlowAnswer f (costs_in x) (address_in x) p p' q q' unknown (found_of r)
      go (Comes.too_large h a b) = rw (a, b) (too_large w.d w.dep w.dist w.idle p q h)
      go (Comes.short {n = k} h y) = short w.d w.dep w.dist h p p' q q' k y
      go (Comes.bounds h y a b) = rw (a, b) (both w.d w.dep w.dist h p p' q q' 0 y)

-- where it is judged sound
pub sound_answer : {x m : List ℕ} {n k : ℕ} → Settles x m n → JudgedBy x m (Ok k) → {p p' q q' : List ℕ} {r : Result Greatest Unbounded} → Measured x n p p' q q' r
    → FlowAnswer (flow_at x m) (costs_in x) (address_in x) p p' q q' unknown (found_of r)
unfolding Judges
sound_answer {x} {m} settles by w = measured-answer x m settles by.is.no_bad by.is.no_loop w
