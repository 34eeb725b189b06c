-- `sound_generator::write_p23` meets its contract.
use native.Mathlib.Omega.{arith}
use Rattle.sound_generator.proofs.Ranges.{took}
use Rattle.sound_generator.proofs.write_p23.Goals as goal

pub overflow_mul-result : goal.overflow_mul-result
overflow_mul-result c = let t = took c.args.s c.args.n c.takes.ensures c.if-not-takes.false in omega (arith, t.0.p24)

pub overflow_add-result : goal.overflow_add-result
overflow_add-result c = let t = took c.args.s c.args.n c.takes.ensures c.if-not-takes.false in omega (arith, t.0.p24, t.1)
