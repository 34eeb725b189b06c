-- `text_lister::line::row_columns` meets its contract.
use mathlib.Core.List.{append_assoc, append-nil}
use Rattle.text_lister.proofs.line.row_columns.Goals as goal

pub returns-clause-text : goal.returns-clause-text
returns-clause-text g c =
    rw (c.number-2.ensures.text, c.from-2.ensures, c.put-2.ensures.text, c.number.ensures.text, c.from.ensures, c.put.ensures.text, c.row_column.ensures.text, c.blanks.ensures.text, c.bytes_column.ensures.text)
    (simp (append_assoc, append-nil))
