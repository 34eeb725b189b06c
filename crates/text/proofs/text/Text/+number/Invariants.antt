-- `text::text::Text::number` ends: the measure is the number of places.
use Rattle.text.proofs.text.Text.+number.Given as goal

abbrev pub decreases-number : goal.decreases-number
decreases-number g l = l.places
