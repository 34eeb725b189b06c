-- `clock::tbi_sets` meets its contract: its table of exponents is the one that the definition makes.
use mathlib.Core.Path.{◌∙◌}
use Rattle.clock.proofs.Periods.{set_off, set_on}
use Rattle.clock.proofs.tbi_sets.Goals as goal

pub returns-in-Some : goal.returns-in-Some
returns-in-Some c = c.is_multiple.ensures ∙ set_on c.args.p25 c.requires _ c.args.base c.in-Some.is

pub returns-in-None : goal.returns-in-None
returns-in-None c = set_off c.args.p25 c.requires c.args.base c.in-None.is
