-- `sound_generator::advance::advanced` meets its contract.
use mathlib.Core.Path.{sym, ◌∙◌}
use Rattle.sound_generator.proofs.advance.Jumping.{stands}
use Rattle.sound_generator.proofs.advance.advanced.Goals as goal

pub returns-else-runs : goal.returns-else-runs
returns-else-runs c = sym (stands c.args.n c.args.s (sym c.runs.ensures ∙ c.if-runs.false))
