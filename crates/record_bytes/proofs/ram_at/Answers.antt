-- `record_bytes::ram_at` meets its contract.
use mathlib.Core.Path.{◌∙◌}
use Rattle.record_bytes.proofs.Parts.{ram_rest}
use Rattle.record_bytes.proofs.ram_at.Goals as goal

pub returns : goal.returns
returns c = c.copy_from_slice.ensures.after ∙ ram_rest c.args.bytes.now c.requires
