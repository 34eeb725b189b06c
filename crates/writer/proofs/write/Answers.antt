-- `writer::write` meets its contract.
use mathlib.Core.Path.{◌≡◌, sym, ◌∙◌}
use Rattle.std.specs.Prelude.{Ok}
use Rattle.sheet.specs.Reading.{read_bytes}
use Rattle.writer.specs.Spelling.{spelling}
use Rattle.writer.proofs.Codes.{three}
use Rattle.writer.proofs.Answers.{refuses, none_of_row, none_read, same, other, writes}
use Rattle.writer.proofs.write.Goals as goal

pub returns-then-i-gt107 : goal.returns-then-i-gt107
returns-then-i-gt107 c = refuses c.args.i (none_of_row c.args.i c.if-i-gt107.true)

pub returns-in-Ok : goal.returns-in-Ok
returns-in-Ok c =
    let is : c.in-Ok.j ≡ c.args.i = same c.in-Ok.j c.args.i (sym c.eq.ensures ∙ c.if-eq.true) in
    let reads : read_bytes (three (spelling c.args.i)) ≡ Ok c.args.i = cc in
    rw c.spell-code.ensures (writes c.args.i _ _ reads (rw c.spell-code.ensures at c.timing.ensures.timed_from))

pub returns-in_default : goal.returns-in_default
returns-in_default c =
    refuses c.args.i (none_read c.args.i (λ e. let is : c.in-Ok.j ≡ c.args.i = cc in other c.in-Ok.j c.args.i (sym c.eq.ensures ∙ c.if-eq.false) is))

pub returns-in_default-2 : goal.returns-in_default-2
returns-in_default-2 c = refuses c.args.i (none_read c.args.i (λ e. cc))
