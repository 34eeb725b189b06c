-- `writer::digits_behind` meets its contract.
use mathlib.Core.Path.{ap, ◌∙◌}
use Prim.Native.Nat.{ℕ, ◌+◌, ◌%◌}
use lib.Dec.{eqb, eqb→eq}
use Rattle.laws.proofs.Computed.{at, listed_at}
use Rattle.sheet.specs.Table.{line_at}
use Rattle.writer.specs.Spelling.{behind}
use borrow.Author.Rules.{rules}
use Rattle.writer.proofs.digits_behind.Goals as goal

pub returns : goal.returns
unfolding line_at
returns c = ap (λ (n : ℕ). n % 16) (listed_at (λ (n : ℕ). 48 + behind (line_at n)) 108 c.args.row (search rules)) ∙ eqb→eq _ (behind (line_at c.args.row)) (at (λ (n : ℕ). eqb ((48 + behind (line_at n)) % 16) (behind (line_at n))) 108 tt c.args.row (search rules))
