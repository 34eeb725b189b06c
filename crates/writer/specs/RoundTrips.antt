-- Demand 2 (docs/PROMISES.md): "A code read and written back is the same bytes; an instruction written and read back is the same instruction." Both of the public reader and the writer, at any address of any image of either device, through the window of any P3 that may stand.
use Rattle.std.specs.Prelude.{ℕ, ◌+◌, ◌-◌, ◌<◌, List, ◌≡◌, length, take, Ok}
use Rattle.numbers.specs.Sizes.{addresses}
use Rattle.numbers.specs.ComesBack.{answered, refused, past_end}
use Rattle.device.specs.Device.{image_size, rom_of, Banked, OfBytes}
use Rattle.device.specs.declared.Device.{Device}
use Rattle.sheet.specs.Reading.{left, bytes_of}
use Rattle.sheet.specs.declared.Insn.{Insn}
use Rattle.reader.specs.Answer.{read_paper, paper_of_code}
use Rattle.writer.specs.Writing.{Written, paper_of, Writes}

-- the bytes that stand in an image from an address on as P3 shows them, n of them; fewer where the addresses end before
abbrev pub bytes_at : List ℕ → ℕ → ℕ → ℕ → List ℕ
bytes_at image p3 address n = take n (left (rom_of image p3) address)

-- where the reader answers the instruction i, what the writer answers to i is the bytes that stand there
abbrev pub ReadThenWritten : Type 0
ReadThenWritten =
    (d : Device) (image : List ℕ) → OfBytes image → (p3 address : ℕ) (i : Insn) → read_paper d image p3 address ≡ paper_of_code (Ok i)
    → (r : Written) → Writes i r → paper_of r ≡ answered (bytes_at image p3 address (bytes_of i.row))

-- where what the writer answers to i stands in an image, the reader answers i there
abbrev pub WrittenThenRead : Type 0
WrittenThenRead =
    (i : Insn) (r : Written) (bs : List ℕ) → Writes i r → paper_of r ≡ answered bs
    → (d : Device) (image : List ℕ) → length image ≡ image_size d → OfBytes image → (p3 address : ℕ) → Banked d p3 → address < addresses
    → bytes_at image p3 address (length bs) ≡ bs → read_paper d image p3 address ≡ paper_of_code (Ok i)

-- an image that ends in the middle of a code has no instruction there: where the bytes left are the first of what the writer answers to i and not all, the reader answers 35
abbrev pub CutShort : Type 0
CutShort =
    (i : Insn) (r : Written) (bs : List ℕ) → Writes i r → paper_of r ≡ answered bs
    → (d : Device) (image : List ℕ) → length image ≡ image_size d → OfBytes image → (p3 address : ℕ) → Banked d p3 → address < addresses → addresses < address + length bs
    → left (rom_of image p3) address ≡ take (addresses - address) bs → read_paper d image p3 address ≡ refused past_end
