-- `hex_reader::data::is_past` meets its contract.
use Rattle.hex_reader.proofs.data.Some.{past-last}
use Rattle.hex_reader.proofs.data.is_past.Goals as goal

pub returns-then-count-ne0 : goal.returns-then-count-ne0
returns-then-count-ne0 c = past-last c.args.size c.args.address c.args.count c.if-count-ne0.true
