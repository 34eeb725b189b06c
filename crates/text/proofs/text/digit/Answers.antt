-- `text::text::digit` meets its contract.
use mathlib.Core.Path.{refl}
use Rattle.text.specs.Digits.{digit}
use Rattle.text.proofs.text.digit.Goals as goal

pub returns : goal.returns
unfolding digit
returns c = refl
