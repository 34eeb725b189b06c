-- `text::text::places` ends: the measure is the number.
use Rattle.text.proofs.text.+places.Given as goal

abbrev pub decreases-places : goal.decreases-places
decreases-places l = l.v
