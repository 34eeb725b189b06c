-- `notation::mnemonic` meets its contract: its table is the one of the rows.
use borrow.Author.Rules.{rules}
use Rattle.sheet.specs.Table.{line_at}
use Rattle.std.specs.Prelude.{map}
use Rattle.notation.specs.declared.TheConstants.{MNEMONICS}
use Rattle.text.proofs.Lent.{lent_at}
use Rattle.notation.proofs.Mnemonics.{mnemonic_at, no_mnemonic}
use Rattle.notation.proofs.mnemonic.Goals as goal

pub returns-then-row-le107 : goal.returns-then-row-le107
unfolding line_at
returns-then-row-le107 c = rw lent_at (mnemonic_at (map (λ m. m.now) MNEMONICS) tt c.args.row c.if-row-le107.true)

pub returns-else-row-le107 : goal.returns-else-row-le107
returns-else-row-le107 c = rw (no_mnemonic c.args.row c.if-row-le107.false (search rules))
