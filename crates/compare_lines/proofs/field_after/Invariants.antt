-- `compare_lines::field_after` meets its contract.
use mathlib.Core.Path.{◌≡◌}
use Prim.Native.Nat.{◌+◌, ◌≤◌}
use lib.ListN.{drop}
use Rattle.compare_lines.specs.Left.{blanks_in}
use Rattle.compare_lines.proofs.field_after.Given as goal

abbrev pub invariant-loop-c : goal.invariant-loop-c
invariant-loop-c l = (l.field + blanks_in (drop l.c-index l.text) ≡ 1 + blanks_in l.text) × (l.field ≤ 1 + l.c-index)
