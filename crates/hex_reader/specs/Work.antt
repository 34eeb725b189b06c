-- Document 02, Q-10: a buffer that "carries the work: the bytes so far, with one bit for each address already given". For an image of 8,192 bytes it has 9,216, for one of 16,384 it has 18,432.
use Rattle.std.specs.Prelude.{ℕ, ◌+◌, ◌/◌, ◌%◌, ◌^◌, ◌<◌, ◌≡◌, Bool, true, List, length, get_or}
use Rattle.bits.specs.Bits.{has_bit}
use Rattle.hex_reader.specs.Given.{Given, byte_at, is_given}

abbrev pub work_size : ℕ → ℕ
work_size image_size = image_size + (image_size + 7) / 8

-- the bit of an address: the bits stand behind the bytes, eight a byte, the lowest first
abbrev pub bit_of : ℕ → List ℕ → ℕ → Bool
bit_of image_size work a = has_bit (get_or work (image_size + a / 8) 0) (2 ^ (a % 8))

-- the buffer holds what some records give
pub record Holds (image_size : ℕ) (work : List ℕ) (ds : List Given) : Type 0 where
  pub size : length work ≡ work_size image_size
  pub bytes : (a : ℕ) → a < image_size → get_or work a 0 ≡ byte_at ds a
  pub bits : (a : ℕ) → a < image_size → bit_of image_size work a ≡ is_given ds a

-- one byte is put at an address that had none
pub record Puts (image_size : ℕ) (before after : List ℕ) (a byte : ℕ) : Type 0 where
  pub size : length after ≡ length before
  pub byte_there : get_or after a 0 ≡ byte
  pub byte_other : (x : ℕ) → x < image_size → (x ≡ a → ⊥) → get_or after x 0 ≡ get_or before x 0
  pub bit_there : bit_of image_size after a ≡ true
  pub bit_other : (x : ℕ) → x < image_size → (x ≡ a → ⊥) → bit_of image_size after x ≡ bit_of image_size before x
