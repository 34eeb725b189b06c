-- `writer::second_byte` meets its contract.
use Prim.Native.Nat.{ℕ}
use Rattle.laws.proofs.Computed.{listed_at}
use Rattle.sheet.specs.Table.{line_at}
use Rattle.writer.specs.Spelling.{second_byte}
use borrow.Author.Rules.{rules}
use Rattle.writer.proofs.second_byte.Goals as goal

pub returns : goal.returns
unfolding line_at
returns c = listed_at (λ (n : ℕ). second_byte (line_at n)) 108 c.args.row (search rules)
