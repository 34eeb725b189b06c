-- `text::text::Text::decimal_digits` ends: the measure is the number of places.
use Rattle.text.proofs.text.Text.+decimal_digits.Given as goal

abbrev pub decreases-decimal_digits : goal.decreases-decimal_digits
decreases-decimal_digits g l = l.places
