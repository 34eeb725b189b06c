-- `frame::pins_at` meets its contract. The digit that the EM73862's frames do not have is 0.
use Rattle.frame.proofs.Characters.{chars_three, zero_digit}
use Rattle.frame.proofs.pins_at.Goals as goal

pub returns-in-Em73862 : goal.returns-in-Em73862
returns-in-Em73862 c =
    rw (
      c.in-Em73862.is,
      c.digit_value-3.ensures,
      c.digit_value-2.ensures,
      c.digit_value.ensures,
      chars_three _ _ (rw c.in-Em73862.is at c.requires.0),
      zero_digit,
    )
