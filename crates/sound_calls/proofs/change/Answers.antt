-- `sound_calls::change` meets its contract.
use Rattle.sound_calls.proofs.OneAnswer.{held}
use Rattle.sound_calls.proofs.change.Goals as goal

pub pack-requires : goal.pack-requires
pack-requires g c = (held c.args.bytes.now c.in-Some.ensures.0).size
