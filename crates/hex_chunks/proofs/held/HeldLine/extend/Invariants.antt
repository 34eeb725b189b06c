-- `hex_chunks::held::HeldLine::extend` meets its contract: up to an index the part is held.
use mathlib.Core.List.{List, ◌++◌}
use Prim.Native.Nat.{ℕ}
use lib.ListN.{take}
use Rattle.hex_chunks.specs.Kept.{Kept}
use Rattle.hex_chunks.proofs.held.HeldLine.extend.Given as goal

abbrev pub invariant-loop-c : goal.invariant-loop-c
invariant-loop-c l = (line : List ℕ) → Kept l.initial.self line → Kept l.self (line ++ take l.c-index l.part)
