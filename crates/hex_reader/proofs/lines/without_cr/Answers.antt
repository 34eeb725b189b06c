-- `hex_reader::lines::without_cr` meets its contract.
use native.Mathlib.Omega.{arith}
use Rattle.hex_reader.proofs.lines.Splits.{cr_cut, cr_kept}
use Rattle.hex_reader.proofs.lines.without_cr.Goals as goal

pub returns-in-13 : goal.returns-in-13
returns-in-13 c = cr_cut c.args.characters.now (λ e. omega arith) (omega arith)

pub returns-in_default-2 : goal.returns-in_default-2
returns-in_default-2 c = cr_kept c.args.characters.now (λ e. omega arith) (λ e. omega arith)
