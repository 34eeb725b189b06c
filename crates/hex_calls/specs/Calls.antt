-- Document 02, Q-3, on numbers and byte buffers: what the calls for C answer, and what they leave in what is lent to them. include/em73862_hex.h and include/em73p982_hex.h declare them. image_size is the size of the device's image.
use Rattle.std.specs.Prelude.{ℕ, ◌≡◌, List}
use Rattle.hex_reader.specs.Reader.{read_into}
use Rattle.hex_writer.specs.Writer.{written_from}

-- the number, the line and the image buffer are the reader's
abbrev pub ReadCall : ℕ → List ℕ → List ℕ → ℕ → ℕ → List ℕ → Type 0
ReadCall image_size text before number line after = record { number = number; line = line; image = after } ≡ read_into image_size text before

-- the number and the output buffer are the writer's
abbrev pub WriteCall : ℕ → List ℕ → List ℕ → ℕ → List ℕ → Type 0
WriteCall image_size image before number after = record { number = number; text = after } ≡ written_from image_size image before
