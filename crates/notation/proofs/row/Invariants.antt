-- `notation::row` meets its contract: from c-index on the mnemonic is left to be spelled.
use mathlib.Core.Path.{◌≡◌}
use mathlib.Core.List.{◌++◌}
use lib.ListN.{drop}
use Rattle.notation.specs.Notation.{spelled, row_text}
use Rattle.notation.proofs.row.Given as goal

abbrev pub invariant-loop-c : goal.invariant-loop-c
invariant-loop-c g l = l.out ++ spelled l.at l.insn (drop l.c-index l.c-items) ≡ l.initial.out ++ row_text l.at l.insn
