-- `reader::read_at` meets its contract.
use mathlib.Core.Path.{◌∙◌}
use Rattle.device.specs.Device.{rom_of}
use Rattle.reader.proofs.Rows.{three-left}
use Rattle.reader.proofs.read_at.Goals as goal

pub returns-then-at-lt8190 : goal.returns-then-at-lt8190
returns-then-at-lt8190 c = c.decode.ensures ∙ rw (c.byte.ensures, c.byte-then-at-lt8190.ensures, c.byte-then-at-lt8190-2.ensures) (three-left (rom_of c.args.window.bytes.now c.args.window.p3) c.args.at (rw c.byte.ensures at c.byte.type_inv) c.if-at-lt8190.true)
