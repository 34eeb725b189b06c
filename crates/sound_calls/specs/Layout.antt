-- The sound pin's state as eight bytes: what stands where in a buffer that crosses a call.
use Rattle.std.specs.Prelude.{ℕ, ◌+◌, ◌*◌, ◌/◌, ◌%◌, Bool, List, [], ◌∷◌, eqb, ltb, length, get_or}
use Rattle.laws.specs.Choice.{both}
use Rattle.bits.specs.Bits.{bit_of}
use Rattle.sound_generator.specs.declared.Sound.{Sound}

abbrev pub state_bytes : ℕ
state_bytes = 8

-- 0 the mode, 1 whether asleep, 2 TF, 3 the count, 4 the tone, 5 and 6 the last nine random bits (low byte first), 7 P24
unfoldable pub bytes_of : Sound → List ℕ
bytes_of s =
    s.mode ∷ bit_of s.asleep ∷ s.tf ∷ s.count ∷ bit_of s.tone ∷ s.bits % 256 ∷ s.bits / 256 ∷ s.p24 ∷ []

-- a buffer of another length holds no state, nor does one with a byte over 1 for asleep or tone
unfoldable pub holds_state : List ℕ → Bool
holds_state bytes = both (eqb (length bytes) state_bytes) (both (ltb (get_or bytes 1 0) 2) (ltb (get_or bytes 4 0) 2))

-- the state that a buffer holds
unfoldable pub state_at : List ℕ → Sound
state_at bytes = record {
  mode = get_or bytes 0 0;
  asleep = eqb (get_or bytes 1 0) 1;
  tf = get_or bytes 2 0;
  count = get_or bytes 3 0;
  tone = eqb (get_or bytes 4 0) 1;
  bits = get_or bytes 5 0 + 256 * get_or bytes 6 0;
  p24 = get_or bytes 7 0;
}
