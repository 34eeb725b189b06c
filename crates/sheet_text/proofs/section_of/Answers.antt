-- `sheet_text::section_of` meets its contract: its table is held against the sections by a test over the whole of it.
use Rattle.sheet_text.specs.Lines.{section_of}
use Rattle.sheet_text.proofs.Sections.{section_at, no_section, section_le}
use native.Mathlib.Omega.{arith}
use borrow.Author.Rules.{rules}
use Rattle.sheet_text.proofs.section_of.Goals as goal

pub returns-else-row-le107 : goal.returns-else-row-le107
returns-else-row-le107 c = (rw (no_section c.args.row c.if-row-le107.false (search rules)), omega arith)

pub returns-then-row-le107 : goal.returns-then-row-le107
unfolding section_of
returns-then-row-le107 c =
    let row = c.args.row in
    let is = section_at row (search rules) in
    (is, omega (arith, is, section_le row (search rules)))
