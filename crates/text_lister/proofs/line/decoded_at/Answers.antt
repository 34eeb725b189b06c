-- `text_lister::line::decoded_at` meets its contract.
use mathlib.Core.Path.{sym, ◌∙◌}
use borrow.Author.Rules.{rules}
use Rattle.device.specs.Device.{rom_of}
use Rattle.text_lister.proofs.Costs.{decoded-is, decoded_within}
use Rattle.text_lister.proofs.line.decoded_at.Goals as goal

pub returns-clause-value : goal.returns-clause-value
returns-clause-value c =
    decoded-is (rom_of c.args.window.bytes.now c.args.window.p3) c.args.at (sym c.read_at.ensures ∙ c.in_ok-insn.was) (rw c.byte.ensures at c.timing-cost.ensures.timed_from)

pub returns-clause-upper_bound : goal.returns-clause-upper_bound
returns-clause-upper_bound c =
    decoded_within (rom_of c.args.window.bytes.now c.args.window.p3) c.args.at (sym c.read_at.ensures ∙ c.in_ok-insn.was) (rw c.byte.ensures at c.timing-cost.ensures.timed_from)
    c.requires (rw c.byte.ensures at c.byte.type_inv) (search rules)
