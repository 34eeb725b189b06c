-- `image_calls::row_call` meets its contract.
use Rattle.image_calls.proofs.Answers.{answered-as, fits_read, stands}
use Rattle.device.specs.Device.{in_image}
use Rattle.reader.specs.Answer.{p3_given}
use Rattle.image_calls.proofs.row_call.Goals as goal

pub in_order-operands-requires : goal.in_order-operands-requires
in_order-operands-requires c = fits_read c.args.d c.args.image.now (p3_given c.args.d c.args.p3) (λ at. (c.type_inv.image (in_image (p3_given c.args.d c.args.p3) at)).fits) c.args.address (answered-as c.args.d c.args.image.now (p3_given c.args.d c.args.p3) c.args.address c.read-answer.ensures c.from-n.ensures)

pub destination-requires : goal.destination-requires
destination-requires c = stands c.args.d c.args.image.now (p3_given c.args.d c.args.p3) (λ at. (c.type_inv.image (in_image (p3_given c.args.d c.args.p3) at)).fits) c.args.address c.read-answer.result c.read-answer.ensures
