-- The room that the ways need.
use mathlib.Core.List.{List}
use Prim.Native.Nat.{ℕ, ◌*◌, ◌≤◌, ◌<◌}
use native.Mathlib.Omega.{arith}
use lib.ListN.{length, get_or}
use Rattle.graph.specs.Graph.{Graph}
use Rattle.routines_paths.specs.Way as way
use Rattle.routines_paths.specs.Deep as deep
use Rattle.routines_paths.proofs.deepest.Some.{deep-route}

pub way_roomy : {g : Graph} {d : List ℕ} {s n : ℕ} (p : List ℕ) → way.LengthIs g d s n → get_or d s 0 < 65536 → 2 * n ≤ length p → way.Roomy g d s p 32768
way_roomy p l low h = record { route = l.route; is = l.is; fits = omega (arith, l.len); few = omega (arith, l.len, l.most) }

module _ {g : Graph} {d : List ℕ} (fall : way.Fall g d) (dep : List ℕ) (goal s : ℕ) (has : 0 < get_or d s 0) (low : get_or d s 0 < 65536) where
  pub deep-short : deep.Short g dep goal s 32768
  deep-short = let x = deep-route fall dep goal s has in record { route = x.0; is = x.1; few = omega (arith, x.2, low) }

pub deep_roomy : {g : Graph} {dep : List ℕ} {goal s n : ℕ} (p : List ℕ) → deep.LengthIs g dep goal s 32768 n → 2 * n ≤ length p → deep.Roomy g dep goal s p 32768
deep_roomy p l h = record { route = l.route; is = l.is; fits = omega (arith, l.len); few = l.few }
