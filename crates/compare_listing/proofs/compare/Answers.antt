-- `compare_listing::compare` meets its contract.
use mathlib.Core.Path.{◌∙◌}
use native.Mathlib.Omega.{arith}
use Rattle.std.proofs.lemmas.Result.{err_from_is_err_and}
use Rattle.compare_listing.proofs.Whole.{another_size, start-sound, start-answer}
use Rattle.compare_listing.proofs.compare.Goals as goal

pub returns-in_err-image : goal.returns-in_err-image
returns-in_err-image c =
    let p = err_from_is_err_and c.from_residual.result c.from_residual.ensures.1 in
    let e = c.in_err-image.ensures.err in
    rw (p.1, p.2, e.1) (another_size c.args.d c.args.image.now c.args.script.now c.args.listing.now e.0)

pub compare_whole-requires : goal.compare_whole-requires
compare_whole-requires c =
    let ok = c.in_ok-image.ensures.ok in
    (rw (ok.1, c.begin.ensures, c.header.ensures.text, c.new-ours.ensures, c.fresh-m.ensures) (start-sound c.args.d), rw c.begin.ensures (omega arith))

pub returns : goal.returns
returns c =
    let ok = c.in_ok-image.ensures.ok in
    start-answer c.args.d c.args.image.now c.args.script.now c.args.listing.now ok.0
    ∙ rw (ok.1, ok.2, c.begin.ensures, c.header.ensures.text, c.new-ours.ensures, c.fresh-m.ensures) at c.compare_whole.ensures
