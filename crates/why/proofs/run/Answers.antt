-- `why::run` meets its contract.
use Rattle.record.proofs.start.Starting.{fresh_valid}
use Rattle.why.proofs.run.Goals as goal

pub session-requires : goal.session-requires
session-requires c =
    let valid = fresh_valid c.in_ok-image.image.device in
    (rw c.fresh-m.ensures valid.core, rw c.fresh-m.ensures valid.ram)
