-- `hex_writer::write_hex` meets its contract.
use mathlib.Core.Path.{◌≡◌, sym, ◌∙◌}
use lib.ListN.{length}
use Rattle.device.specs.Device.{image_size}
use Rattle.hex_writer.proofs.Answers.{wrong_size, too_short, written}
use Rattle.hex_writer.proofs.write_hex.Goals as goal

pub returns-then-image-image_size : goal.returns-then-image-image_size
returns-then-image-image_size c = wrong_size (image_size c.args.d) c.args.image.now c.args.out.now (λ e. c.if-image-image_size.true (e ∙ sym c.image_size.ensures))

pub returns-then-out-text_size : goal.returns-then-out-text_size
returns-then-out-text_size c = too_short (image_size c.args.d) c.args.image.now c.args.out.now (c.if-image-image_size.false ∙ c.image_size.ensures) (rw (← c.text_size.ensures) c.if-out-text_size.true)

pub returns : goal.returns
returns c =
    let e : length c.args.image.now ≡ image_size c.args.d = c.if-image-image_size.false ∙ c.image_size.ensures in
    written (image_size c.args.d) c.args.image.now c.args.out.now _ e (rw (← c.text_size.ensures) c.if-out-text_size.false) (rw e at c.write_text.ensures)
