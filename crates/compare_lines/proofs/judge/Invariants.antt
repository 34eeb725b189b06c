-- `compare_lines::judge` meets its contract.
use mathlib.Core.Path.{◌≡◌}
use mathlib.Core.List.{List, ◌++◌}
use Prim.Native.Nat.{ℕ}
use lib.ListN.{drop}
use Rattle.compare_lines.specs.Left.{spaced_of}
use Rattle.compare_lines.proofs.judge.Given as goal

abbrev pub invariant-loop-c : goal.invariant-loop-c
invariant-loop-c l = (rest : List ℕ) → spaced_of l.initial.form (l.text ++ rest) ≡ spaced_of l.form (drop l.c-index l.text ++ rest)
