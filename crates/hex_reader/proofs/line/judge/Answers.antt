-- `hex_reader::line::judge` meets its contract.
use mathlib.Core.Path.{sym, ◌∙◌}
use Rattle.hex_reader.proofs.line.Records.{no_record}
use Rattle.hex_reader.proofs.line.judge.Goals as goal

pub returns-else-is_record : goal.returns-else-is_record
returns-else-is_record c = record { meaning = sym (no_record c.args.line.now (sym c.is_record.ensures ∙ c.if-is_record.false)); placed = tt; long = tt }
