-- What acting asks of the record.
use Rattle.std.specs.Prelude.{◌≡◌}
use Rattle.device.specs.declared.Device.{Device}
use Rattle.ports.specs.declared.Mode.TheVariants.{Running}
use Rattle.record.specs.Valid.{ValidCore}
use Rattle.record.specs.declared.Core.{Core}

pub record Runs (d : Device) (m : Core) : Type 0 where
  pub valid : ValidCore d m
  pub running : m.mode ≡ Running
