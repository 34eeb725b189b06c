-- `image_calls::bound_call` meets its contract.
use native.Mathlib.Omega.{arith}
use Rattle.device.specs.Device.{in_image}
use Rattle.bound.proofs.Sizes.{answer_few}
use Rattle.reader.specs.Answer.{p3_given}
use Rattle.image_calls.proofs.bound_call.Goals as goal

pub overflow_cast-value : goal.overflow_cast-value
overflow_cast-value c = omega (arith, c.from-n.ensures.value, (answer_few (λ at. (c.type_inv.image (in_image (p3_given c.args.d c.args.p3) at)).fits) c.bound.ensures).value)

pub overflow_cast-depth : goal.overflow_cast-depth
overflow_cast-depth c = omega (arith, c.from-n.ensures.depth, (answer_few (λ at. (c.type_inv.image (in_image (p3_given c.args.d c.args.p3) at)).fits) c.bound.ensures).depth)
