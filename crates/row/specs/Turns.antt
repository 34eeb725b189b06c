-- What executing a row, accepting an interrupt or making a step gives where RAM is lent: the scalars in a turn, or a stop; and RAM where it was.
use Rattle.std.specs.Prelude.{ℕ, List, Result, Ok, Err, ◌≡◌}
use Rattle.numbers.specs.Numbered.{stop_number}
use Rattle.numbers.specs.declared.Stop.{Stop}
use Rattle.record.specs.With.{assembled}
use Rattle.record.specs.declared.Core.{Core}
use Rattle.row.specs.Rows.{Done, spent, stops}
use Rattle.row.specs.declared.Turn.{Turn}

abbrev pub turned : Turn → List ℕ → Done
turned x l = spent x.cycles (assembled x.core l)

-- what came of the scalars m, where RAM is l then. "A stop now leaves the record as the first call left it" (Q-4), here as the row found it, with "zero cycles for it"
abbrev pub done_as : Core → Result Turn Stop → List ℕ → Done
done_as m (Ok x) l = turned x l
done_as m (Err s) l = stops (stop_number s) (assembled m l)

-- what came of the scalars m, and RAM l then, are what the definition's d says
pub record Gives (d : Done) (m : Core) (l : List ℕ) (x : Result Turn Stop) : Type 0 where
  pub same : done_as m x l ≡ d
