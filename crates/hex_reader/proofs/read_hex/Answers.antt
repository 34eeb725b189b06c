-- `hex_reader::read_hex` meets its contract.
use mathlib.Core.Path.{sym, ◌∙◌}
use Rattle.std.proofs.lemmas.Result.{err_from_is_err_and}
use Rattle.device.specs.Device.{image_size}
use Rattle.hex_reader.proofs.Answers.{wrong_size, refuses, reads}
use Rattle.hex_reader.proofs.read_hex.Goals as goal

pub returns-then-image-size : goal.returns-then-image-size
returns-then-image-size c = wrong_size (image_size c.args.d) c.args.text.now c.args.image.now (λ e. c.if-image-size.true (e ∙ sym c.image_size-size.ensures))

pub returns-in_err-read_lines : goal.returns-in_err-read_lines
returns-in_err-read_lines c =
    let p = err_from_is_err_and c.from_residual.result c.from_residual.ensures.1 in
    let refused = rw c.image_size-size.ensures at c.in_err-read_lines.ensures.1 in
    rw (p.1, p.2) (refuses (image_size c.args.d) c.args.text.now c.args.image.now _ (c.if-image-size.false ∙ c.image_size-size.ensures) refused)

pub returns : goal.returns
returns c =
    let held = rw c.image_size-size.ensures at c.in_ok-read_lines.ensures.1 in
    reads (image_size c.args.d) c.args.text.now c.args.image.now c.read_lines.new.work _ (c.if-image-size.false ∙ c.image_size-size.ensures) held c.copy_image.ensures
