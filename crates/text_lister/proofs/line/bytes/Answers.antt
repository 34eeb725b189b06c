-- `text_lister::line::bytes` meets its contract: i bytes are written.
use mathlib.Core.Path.{ap}
use native.Mathlib.Omega.{arith}
use lib.ListN.{length}
use Rattle.std.proofs.lemmas.Grind.{common_steps}
use Rattle.device.specs.Device.{rom_of}
use Rattle.text_lister.proofs.Bytes.{spaced_first, spaced_next}
use Rattle.text_lister.proofs.line.bytes.Goals as goal
use Rattle.text_lister.proofs.line.bytes.Goals.{then-i-gt0, else-i-gt0}

pub number-requires : goal.number-requires
number-requires g c = elim c.if-i-gt0.branch [ then-i-gt0 w ↦ omega (arith, ap length w.out-is) | else-i-gt0 w ↦ omega (arith, ap length w.out-is) ]

pub loop-i-preserved : goal.loop-i-preserved
loop-i-preserved g c =
    let rom = rom_of c.args.window.bytes.now c.args.window.p3 in
    elim c.if-i-gt0.branch [
      | then-i-gt0 w ↦ record { text = grind (arith, common_steps, spaced_next rom c.args.at c.loop-i.i (omega arith) (omega arith)); size = omega (arith, ap length w.out-is) }
      | else-i-gt0 w ↦ record { text = grind (arith, common_steps, spaced_first rom c.args.at); size = omega (arith, ap length w.out-is) }
    ]

pub returns-clause-upper_bound : goal.returns-clause-upper_bound
returns-clause-upper_bound g c = omega arith
