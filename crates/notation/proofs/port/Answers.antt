-- `notation::port` meets its contract.
use native.Mathlib.Omega.{arith}
use Rattle.text.proofs.digits.Numbers.{places_of_byte}
use Rattle.notation.proofs.port.Goals as goal

pub decimal-requires : goal.decimal-requires
decimal-requires g c = omega (arith, places_of_byte c.args.p (omega arith))
