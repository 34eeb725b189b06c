-- `runner::session` meets its contract.
use Rattle.record.specs.Valid.{ValidCore, Nibbles}
use Rattle.runner.proofs.session.Given as goal

abbrev pub invariant-loop : goal.invariant-loop
invariant-loop l = (ValidCore l.image.device l.core) × (Nibbles l.ram)
