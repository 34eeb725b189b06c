-- The request of the sound pin: "the generator of P30, P23 and P24 as a state", its start and its output of one bit.
use Rattle.std.specs.Prelude.{ℕ, ◌+◌, ◌*◌, ◌%◌, ◌<◌, ◌≤◌, Bool, true, false, eqb, ltb, leb}
use Rattle.laws.specs.Choice.{pick, both, either}
use Rattle.sound_generator.specs.Random.{nine_bits, nine_ones, nine_zeros, Random}
use Rattle.sound_generator.specs.declared.Sound.{Sound}

-- the sheet, "Sound generator mode": 00 disable, 01 tone, 10 random, 11 tone and random. It is P30 bits 1..0
abbrev pub disabled : ℕ
disabled = 0

abbrev pub tone_output : ℕ
tone_output = 1

abbrev pub random_output : ℕ
random_output = 2

abbrev pub modes : ℕ
modes = 4

-- what a port holds: P24, as it stands
abbrev pub nibbles : ℕ
nibbles = 16

-- "Refusals: 2 nine zeros or a count over TF", or a value outside its range; TF is a byte, and may be any
unfoldable pub in_ranges : Sound → Bool
in_ranges s =
    both (both (ltb s.mode modes) (ltb s.p24 nibbles))
    (both (leb s.count s.tf) (both (ltb nine_zeros s.bits) (ltb s.bits nine_bits)))

-- the same, fact by fact: proofs/Ranges.antt
pub record InRanges (s : Sound) : Type 0 where
  pub mode : s.mode < modes
  pub p24 : s.p24 < nibbles
  pub count : s.count ≤ s.tf
  pub bits : Random s.bits

-- "At the start the tone is high and TF 255", "nine ones at the start"; a reset gives it too. P24 is 15, as in the fresh record, and P30 0
unfoldable pub start_state : Sound
start_state = record { mode = disabled; asleep = false; tf = 255; count = 0; tone = true; bits = nine_ones; p24 = 15 }

-- "random (the latest bit)"
abbrev pub latest_bit : Sound → Bool
latest_bit s = eqb (s.bits % 2) 1

-- "Output: high when disabled, in sleep or reset; tone; random (the latest bit); or both bits together (high if both are)."
unfoldable pub level_of : Sound → Bool
level_of s =
    pick (either s.asleep (eqb s.mode disabled)) true
    (pick (eqb s.mode tone_output) s.tone
    (pick (eqb s.mode random_output) (latest_bit s) (both s.tone (latest_bit s))))

-- a write of P30: its bits 1..0 are the mode, and nothing restarts
abbrev pub with_p30 : ℕ → Sound → Sound
with_p30 n s = record { mode = n % modes; asleep = s.asleep; tf = s.tf; count = s.count; tone = s.tone; bits = s.bits; p24 = s.p24 }

-- a write of P24 changes nothing else: "TF is taken when P23 is written, with P24 as it stands, and the count restarts"
abbrev pub with_p24 : ℕ → Sound → Sound
with_p24 n s = record { mode = s.mode; asleep = s.asleep; tf = s.tf; count = s.count; tone = s.tone; bits = s.bits; p24 = n }

abbrev pub with_p23 : ℕ → Sound → Sound
with_p23 n s = record { mode = s.mode; asleep = s.asleep; tf = nibbles * s.p24 + n; count = 0; tone = s.tone; bits = s.bits; p24 = s.p24 }

abbrev pub with_sleep : Bool → Sound → Sound
with_sleep asleep s = record { mode = s.mode; asleep = asleep; tf = s.tf; count = s.count; tone = s.tone; bits = s.bits; p24 = s.p24 }
