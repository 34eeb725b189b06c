-- `program::image::address_at` meets its contract.
use mathlib.Core.Path.{sym, ◌∙◌}
use Rattle.program.proofs.Addresses.{address_lt}
use Rattle.program.proofs.image.address_at.Goals as goal

pub returns : goal.returns
returns c = address_lt _ (sym c.address_word.ensures ∙ c.in-Some.is)
