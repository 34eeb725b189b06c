-- What a step gives where RAM is lent, and what it gives of the whole record, held against the definition of a step.
use Rattle.std.specs.Prelude.{ℕ, List, Option, Some, None, Result, Ok, Err, ◌≡◌}
use Rattle.numbers.specs.Numbered.{stop_number}
use Rattle.numbers.specs.declared.Stop.{Stop}
use Rattle.record.specs.With.{assembled}
use Rattle.record.specs.declared.Core.{Core}
use Rattle.row.specs.Rows.{Done}
use Rattle.row.specs.declared.Turn.{Turn}
use Rattle.step.specs.declared.Advanced.{Advanced}

-- document 01's number of a stop, 0 where none is
abbrev pub stop_or_0 : Option Stop → ℕ
stop_or_0 None = 0
stop_or_0 (Some s) = stop_number s

-- "A stop now leaves the record as the first call left it" (Q-4), with "zero cycles for it": m is what the first call left
abbrev pub acted : Core → Result Turn Stop → Advanced
acted m (Ok x) = record { stop = None; cycles = x.cycles; core = x.core }
acted m (Err s) = record { stop = Some s; cycles = 0; core = m }

abbrev pub done_by : Advanced → List ℕ → Done
done_by x l = record { stop = stop_or_0 x.stop; cycles = x.cycles; machine = assembled x.core l }

-- the scalars, and RAM l then, are what the definition's d says
pub record Advances (d : Done) (l : List ℕ) (x : Advanced) : Type 0 where
  pub same : done_by x l ≡ d
