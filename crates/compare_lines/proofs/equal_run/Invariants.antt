-- `compare_lines::equal_run` meets its contract.
use mathlib.Core.Path.{◌≡◌}
use mathlib.Core.List.{List, ◌++◌}
use Prim.Native.Nat.{ℕ, ◌+◌, ◌≤◌}
use lib.ListN.{length, take, drop}
use Rattle.compare_lines.proofs.equal_run.Given as goal

abbrev pub invariant-loop-i : goal.invariant-loop-i
invariant-loop-i l = ((rest : List ℕ) → take l.at l.line ++ (l.part ++ rest) ≡ take (l.at + l.i) l.line ++ (drop l.i l.part ++ rest)) × (l.at + l.i ≤ length l.line)
