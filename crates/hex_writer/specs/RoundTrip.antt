-- Document 02, Q-3: "Reading a written image gives it back."
use Rattle.std.specs.Prelude.{ℕ, ◌<◌, ◌≡◌, List, length, get_or}
use Rattle.hex_reader.specs.Reader.{read_into}
use Rattle.hex_writer.specs.Writer.{InRecords, text_of}

-- of every image of a size, and into every buffer of it
abbrev pub RoundTrip : Type 0
RoundTrip = (image_size : ℕ) → InRecords image_size → (image before : List ℕ) → length image ≡ image_size → ((k : ℕ) → k < image_size → get_or image k 0 < 256) → length before ≡ image_size → read_into image_size (text_of image_size image) before ≡ record { number = 0; line = 0; image = image }
