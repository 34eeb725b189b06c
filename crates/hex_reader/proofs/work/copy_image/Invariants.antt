-- `hex_reader::work::copy_image` meets its contract: up to i the image is copied.
use Rattle.std.proofs.Common.{◌≡◌, length, take}
use Rattle.hex_reader.proofs.work.copy_image.Given as goal

abbrev pub invariant-loop-i : goal.invariant-loop-i
invariant-loop-i l = (length l.image ≡ length l.initial.image) × (take l.i l.image ≡ take l.i l.work)
