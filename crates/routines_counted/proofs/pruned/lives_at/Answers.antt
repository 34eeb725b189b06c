-- `routines_counted::pruned::lives_at` meets its contract.
use mathlib.Core.Path.{refl}
use native.Mathlib.Omega.{arith}
use Rattle.routines_counted.proofs.Living.{no_node, by_mark}
use Rattle.routines_counted.proofs.pruned.lives_at.Goals as goal

pub returns-then-node-ge-MOST_TURNS : goal.returns-then-node-ge-MOST_TURNS
returns-then-node-ge-MOST_TURNS c = no_node _ _ c.if-node-ge-MOST_TURNS.true

pub returns : goal.returns
returns c = by_mark _ _ _ (omega (arith, c.if-node-ge-MOST_TURNS.false)) refl
