-- `listing::tell_step` meets its contract.
use mathlib.Core.List.{[]}
use native.Mathlib.Omega.{arith}
use Rattle.device.specs.Device.{in_image, rom_of}
use Rattle.listing.proofs.Telling.{step-told}
use Rattle.listing.proofs.tell_step.Goals as goal

pub returns : goal.returns
returns g c =
    step-told c.args.d (rom_of c.args.image.now) c.args.m c.args.ram.now [] (record { core = c.requires.1; ram = c.requires.2 }) c.requires.3 (λ p3 at. omega (arith, c.type_inv.image (in_image p3 at))) c.advance-x.ensures c.line.ensures.text c.line.ensures.upper_bound c.is_some.ensures
