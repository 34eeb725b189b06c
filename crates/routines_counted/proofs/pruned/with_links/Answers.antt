-- `routines_counted::pruned::with_links` meets its contract.
use Rattle.routines_counted.proofs.Living.{relinked}
use Rattle.routines_counted.proofs.pruned.with_links.Goals as goal

pub returns : goal.returns
returns c = relinked _ _ _ _ _ _ c.requires c.place_of.ensures c.kind_of.ensures c.cost_of.ensures c.pack.ensures
