-- `text_bounder::bound_at` meets its contract.
use mathlib.Core.Path.{refl}
use Rattle.std.specs.Prelude.{◌<◌, Result, Ok, Err, IfOk}
use Rattle.device.specs.Device.{in_image}
use Rattle.reader.specs.Answer.{p3_given}
use Rattle.routines_bound.specs.declared.Greatest.{Greatest}
use Rattle.bound.specs.declared.Refused.{Refused}
use Rattle.bound.specs.Answer.{paper_of}
use Rattle.bound.proofs.Sizes.{Few, answer_few, bounds_few}
use Rattle.text_bounder.proofs.bound_at.Goals as goal

few_ok : (r : Result Greatest Refused) → Few (paper_of r) → IfOk r (λ g. (g.cycles < 65536) × (g.depth < 65536))
few_ok (Ok g) f = bounds_few refl f
few_ok (Err e) f = tt

pub returns-clause-value : goal.returns-clause-value
returns-clause-value c =
    let few = answer_few (λ at. (c.type_inv.image (in_image (p3_given c.args.d c.into.result) at)).fits) c.bound.ensures in
    (few.value, few.depth)

pub returns-clause-bounds : goal.returns-clause-bounds
returns-clause-bounds c = few_ok _ (answer_few (λ at. (c.type_inv.image (in_image (p3_given c.args.d c.into.result) at)).fits) c.bound.ensures)
