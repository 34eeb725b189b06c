-- `bound::found` meets its contract.
use mathlib.Core.Path.{refl}
use Rattle.device.specs.Device.{in_image, rom_of}
use Rattle.graph_search.proofs.Zeros.{blank_zeros}
use Rattle.bound.proofs.Answers.{handler-words, image-answer}
use Rattle.bound.proofs.found.Goals as goal

pub explore-n-requires : goal.explore-n-requires
explore-n-requires c = (c.requires.0, c.requires.1, blank_zeros 16384, refl, blank_zeros 16384, refl)

pub bound_words-requires : goal.bound_words-requires
bound_words-requires c =
    let args = c.args in
    handler-words args.d (rom_of args.image.now args.p3) (λ at. (c.type_inv.image (in_image args.p3 at)).fits) args.address _ _ _ c.explore-n.ensures c.explore-n.auto.words c.explore-n.auto.map

pub returns : goal.returns
returns c =
    let args = c.args in
    image-answer args.d (rom_of args.image.now args.p3) (λ at. (c.type_inv.image (in_image args.p3 at)).fits) args.address _ _ _ c.explore-n.ensures c.bound_words.ensures
