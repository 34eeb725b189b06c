-- What differs between the devices of the family. Each definition by cases has a line for each device; everything else is over the device.
use Rattle.std.specs.Prelude.{ℕ, ◌+◌, ◌*◌, ◌/◌, ◌%◌, ◌<◌, Bool, true, false, not, List, [], ◌∷◌, T, eqb, ltb, length, get_or}
use Rattle.laws.specs.Among.{among}
use Rattle.laws.specs.Choice.{pick, both, either}
use Rattle.bits.specs.Bits.{with_bit}
use Rattle.numbers.specs.Sizes.{image_bytes}
use Rattle.device.specs.declared.Device.{Device}
use Rattle.device.specs.declared.Device.TheVariants.{Em73862, Em73P982}

-- "Image: exactly 8,192 bytes." Q-6: "an image of 16,384 bytes in four banks of 4 KiB"
abbrev pub image_size : Device → ℕ
image_size Em73862 = image_bytes
image_size Em73P982 = 16384

-- "A frame is three hexadecimal digits, either case: P0, P8, P4.0 (0 or 1)." Q-6: "P4 has four pins, so its frame digit is 0 to 15", "a fourth frame digit of 1 (else 0 ..)": what each digit stays below
abbrev pub digits_of : Device → List ℕ
digits_of Em73862 = 16 ∷ 16 ∷ 2 ∷ []
digits_of Em73P982 = 16 ∷ 16 ∷ 16 ∷ 2 ∷ []

abbrev pub frame_size : Device → ℕ
frame_size d = length (digits_of d)

-- the limit of one digit; a digit that the frame does not have is 0
abbrev pub limit_of : Device → ℕ → ℕ
limit_of d i = get_or (digits_of d) i 1

-- the digits of the fresh last frame: "FF1"; Q-6: "FFF0"
abbrev pub fresh_frame : Device → List ℕ
fresh_frame Em73862 = 15 ∷ 15 ∷ 1 ∷ []
fresh_frame Em73P982 = 15 ∷ 15 ∷ 15 ∷ 0 ∷ []

-- Q-6: "Ports 3, 5, 6 and 17 are writable", besides those of document 01
abbrev pub also_writable : Device → List ℕ
also_writable Em73862 = []
also_writable Em73P982 = 3 ∷ 5 ∷ 6 ∷ 17 ∷ []

-- what the latch of P3, P5, P6 or P17 stays below: the latch of a port that the device does not have holds 0
abbrev pub also_below : Device → ℕ → ℕ
also_below d n = pick (among (also_writable d) n) 16 1

-- Q-6: P3 "resets to 0", "5 and 6 reset to 0 and 17 to 15"
abbrev pub reset_of : Device → ℕ → ℕ
reset_of Em73862 n = 0
reset_of Em73P982 n = pick (eqb n 17) 15 0

-- 34, "10xx written to P25 or P27"; Q-6: "34 also when P3 bits 1..0 would become 3"
abbrev pub reserved : Device → ℕ → ℕ → Bool
reserved d n v =
    either (both (either (eqb n 25) (eqb n 27)) (eqb (v / 4) 2))
    (both (among (also_writable d) 3) (both (eqb n 3) (eqb (v % 4) 3)))

-- "P4 reads 1110 plus P4.0, or 15 with SOUND enabled"; Q-6: P4 "is read whole; bit 0 reads 1 with SOUND enabled"
abbrev pub p4_pins : Device → Bool → ℕ → ℕ
p4_pins Em73862 sound p4 = pick sound 15 (14 + p4)
p4_pins Em73P982 sound p4 = pick sound (with_bit p4 1) p4

-- "A falling edge .. on P8.0 sets IL0"; Q-6: "INT1 is gone; the speech ending interrupt takes IL0 .., raised by a fourth frame digit of 1"
abbrev pub ends_speech : Device → Bool
ends_speech Em73862 = false
ends_speech Em73P982 = true

-- the bound's excluded rows: "any row writing P16"; Q-6: "any row writing P3, by set or clear too, joins the bound's excluded rows"
abbrev pub guarded : Device → List ℕ
guarded Em73862 = 16 ∷ []
guarded Em73P982 = 16 ∷ 3 ∷ []

-- Q-6: "Addresses 0000h to 0FFFh are bank 0; 1000h to 1FFFh are bank 1, 2 or 3 for P3 bits 1..0 = 0, 1, 2". With a P3 of 0 they are the EM73862's own upper half
abbrev pub in_image : ℕ → ℕ → ℕ
in_image p3 at = pick (ltb at 0x1000) at (at + 0x1000 * (p3 % 4))

-- the bytes of an image that P3's window reaches to: of one that is at least as long every address has its byte
abbrev pub window_end : ℕ → ℕ
window_end p3 = 0x2000 + 0x1000 * (p3 % 4)

abbrev pub rom_of : List ℕ → ℕ → ℕ → ℕ
rom_of image p3 at = get_or image (in_image p3 at) 0

-- the image is of bytes
abbrev pub OfBytes : List ℕ → Type 0
OfBytes image = (p3 at : ℕ) → rom_of image p3 at < 256

-- the P3 that a record or an input may have; Q-6: "2 for such a P3", bits 1..0 being 3, "or one over 15, in record or input"
abbrev pub is_banked : Device → ℕ → Bool
is_banked d p3 = both (ltb p3 (also_below d 3)) (not (eqb (p3 % 4) 3))

abbrev pub Banked : Device → ℕ → Type 0
Banked d p3 = T (is_banked d p3)
