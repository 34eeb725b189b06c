-- `compare::session` meets its contract.
use Rattle.compare_listing.specs.Progress.{Sound}
use Rattle.compare.proofs.session.Given as goal

abbrev pub invariant-loop : goal.invariant-loop
invariant-loop l = Sound l.image.device l.present l.ram l.ours
