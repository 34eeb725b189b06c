-- `text_bounder::path_line` meets its contract.
use mathlib.Core.Path.{ap}
use native.Mathlib.Omega.{arith}
use lib.ListN.{length}
use Rattle.text.proofs.digits.Numbers.{places_up_to}
use Rattle.text_bounder.proofs.path_line.Goals as goal

pub decimal-requires : goal.decimal-requires
decimal-requires g c = omega (arith, ap length c.new-shown.ensures, places_up_to 4 c.from.result (omega arith))
