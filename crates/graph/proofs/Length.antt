-- Where nothing is repeated, a path has no more places than there are.
use mathlib.Core.List.{List}
use Prim.Native.Nat.{ℕ, zero, suc, ◌*◌, ◌<◌, ◌≤◌}
use native.Mathlib.Decide.{dec_lt}
use native.Mathlib.Nat.{not-suc-le-zero}
use native.Mathlib.Omega.{arith}
use lib.ListN.{length, get_or}
use Rattle.graph.specs.Graph.{Graph, Reach, here, step, ReachPlus, Path, ends, goes, sum, Sound}
use Rattle.graph.specs.Laid.{Inside}
use Rattle.graph.proofs.Pigeon.{Twice, pigeon}
use Rattle.graph.proofs.Reach.{reach_inside}

-- each place of a path is reached from its first, and from each before it
path_reach : {g : Graph} {v : ℕ} {l : List ℕ} → Path g v l → (i : ℕ) → i < length l → Reach g v (get_or l i 0)
path_reach (ends k) zero h = here
path_reach (ends k) (suc i) h = absurd (omega (arith, h))
path_reach (goes e p) zero h = here
path_reach (goes e p) (suc i) h = step e (path_reach p i (omega (arith, h)))

path_between : {g : Graph} {v : ℕ} {l : List ℕ} → Path g v l → (i j : ℕ) → i < j → j < length l → ReachPlus g (get_or l i 0) (get_or l j 0)
path_between (ends k) i j h t = absurd (omega (arith, h, t))
path_between (goes e p) zero zero h t = absurd (not-suc-le-zero h)
path_between (goes {w = w} e p) zero (suc j) h t = (w, e, path_reach p j (omega (arith, t)))
path_between (goes e p) (suc i) zero h t = absurd (not-suc-le-zero h)
path_between (goes e p) (suc i) (suc j) h t = path_between p i j (omega (arith, h)) (omega (arith, t))

module _ {g : Graph} {s n : ℕ} (inside : Inside g n) (s-lt : s < n) (sound : Sound g s) where
  no_longer : {l : List ℕ} → Path g s l → n < length l → ⊥
  unfolding Twice
  no_longer {l} p h =
      let t = pigeon n (λ i. get_or l i 0) (λ i k. reach_inside inside (path_reach p i (omega (arith, k, h))) s-lt) in
      let back = path_between p t.0 t.1 t.2 (omega (arith, t.3, h)) in
      sound.no_loop (get_or l t.0 0) (path_reach p t.0 (omega (arith, t.2, t.3, h)), rw (← t.4) at back)

  pub path-length : {l : List ℕ} → Path g s l → length l ≤ n
  path-length {l} p = go (dec_lt n (length l))
    where
      go : Dec (n < length l) → length l ≤ n
      go (yes h) = absurd (no_longer p h)
      go (no h) = omega arith

-- and it costs no more than each of its places costs at most
pub sum_at_most : {g : Graph} {n : ℕ} (c : ℕ → ℕ) (most : ℕ) → Inside g n → ((v : ℕ) → v < n → c v ≤ most) → {v : ℕ} {l : List ℕ} → v < n → Path g v l → sum c l ≤ most * length l
unfolding sum
sum_at_most c most inside few {v} h (ends k) = omega (arith, few v h)
sum_at_most c most inside few {v} h (goes {w = w} {l = l} e p) = omega (arith, few v h, sum_at_most c most inside few (inside.edge v w h e) p)
