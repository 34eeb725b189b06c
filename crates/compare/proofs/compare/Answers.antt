-- `compare::compare` meets its contract.
use Rattle.compare_listing.proofs.Whole.{start-sound}
use Rattle.compare.proofs.compare.Goals as goal

pub session-requires : goal.session-requires
session-requires c = rw (c.begin.ensures, c.fresh-m.ensures, c.header.ensures.text, c.new-ours.ensures) (start-sound c.args.image.device)
