-- `text_why::tell_step` meets its contract.
use mathlib.Core.Path.{sym, ◌∙◌}
use mathlib.Core.List.{[]}
use native.Mathlib.Omega.{arith}
use Rattle.device.specs.Device.{in_image, rom_of}
use Rattle.text_why.proofs.Telling.{ends-named, ends-stopped, step-told}
use Rattle.text_why.proofs.tell_step.Goals as goal

pub returns-then-is_last : goal.returns-then-is_last
returns-then-is_last g c =
    step-told c.args.d (rom_of c.args.image.now) c.args.only c.args.step c.args.m c.args.ram.now [] (record { core = c.requires.1; ram = c.requires.2 }) c.requires.3 (λ p3 at. omega (arith, c.type_inv.image (in_image p3 at))) c.advance-x.ensures c.wanted_line.ensures
    (ends-named c.args.only c.args.step c.advance-x.result.stop c.is_last.ensures c.if-is_last.true)

pub returns-else-is_last : goal.returns-else-is_last
returns-else-is_last g c =
    step-told c.args.d (rom_of c.args.image.now) c.args.only c.args.step c.args.m c.args.ram.now [] (record { core = c.requires.1; ram = c.requires.2 }) c.requires.3 (λ p3 at. omega (arith, c.type_inv.image (in_image p3 at))) c.advance-x.ensures c.wanted_line.ensures
    (ends-stopped c.args.only c.args.step c.advance-x.result.stop (sym c.is_last.ensures ∙ c.if-is_last.false) c.is_some-stops.ensures)
