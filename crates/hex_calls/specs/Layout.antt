-- The state of a reader of chunks as 550 bytes, for C: how they are made of a state, and what state they are.
use Rattle.std.specs.Prelude.{ℕ, zero, suc, ◌+◌, ◌*◌, ◌/◌, ◌%◌, ◌^◌, ◌<◌, Bool, true, not, List, [], ◌∷◌, ◌++◌, eqb, leb, length, get_or, take, drop, Result, Ok, Err}
use Rattle.laws.specs.Choice.{pick, both}
use Rattle.bits.specs.Bits.{bit_of}
use Rattle.numbers.specs.Numbered.{refusal_number, refusal_of_number}
use Rattle.hex_reader.specs.declared.fault.HexFault.{HexFault}
use Rattle.hex_chunks.specs.Kept.{held_size}
use Rattle.hex_reader.specs.declared.progress.Stage.{Stage}
use Rattle.hex_reader.specs.declared.progress.Stage.TheVariants.{Going, Ended}
use Rattle.hex_chunks.specs.declared.HexChunks.{HexChunks}

-- a number in n bytes, the low one first
abbrev pub word_bytes : ℕ → ℕ → List ℕ
word_bytes zero v = []
word_bytes (suc n) v = v % 256 ∷ word_bytes n (v / 256)

-- the number of n bytes from a place on
abbrev pub word_at : List ℕ → ℕ → ℕ → ℕ
word_at bytes at zero = 0
word_at bytes at (suc n) = get_or bytes at 0 + 256 * word_at bytes (suc at) n

-- the stage: 0 before the end record, 1 after it, 2 stopped; then the refusal and its line
abbrev pub stage_bytes : Result Stage HexFault → List ℕ
stage_bytes (Ok Going) = 0 ∷ 0 ∷ word_bytes 8 0
stage_bytes (Ok Ended) = 1 ∷ 0 ∷ word_bytes 8 0
stage_bytes (Err first) = 2 ∷ refusal_number first.refusal ∷ word_bytes 8 first.line

abbrev pub stage_at : List ℕ → ℕ → Result Stage HexFault
stage_at bytes at =
    pick (eqb (get_or bytes at 0) 0) (Ok Going)
    (pick (eqb (get_or bytes at 0) 1) (Ok Ended) (Err (record { refusal = refusal_of_number (get_or bytes (at + 1) 0); line = word_at bytes (at + 2) 8 })))

-- the line of a fault is a number of eight bytes
abbrev pub StageFits : Result Stage HexFault → Type 0
StageFits (Ok stage) = Unit
StageFits (Err first) = first.line < 2 ^ 64

-- the line that is begun and how many characters it has, its number, the stage, whether the work buffer is in use, whether the end was declared of a good text
abbrev pub numbers_in : ℕ → ℕ → Result Stage HexFault → Bool → Bool → List ℕ
numbers_in count line stage begun over =
    word_bytes 8 count ++ (word_bytes 8 line ++ (stage_bytes stage ++ (bit_of begun ∷ bit_of over ∷ [])))

abbrev pub numbers_of : HexChunks → List ℕ
numbers_of s = numbers_in s.held.count s.line s.stage s.begun s.over

unfoldable pub packed : HexChunks → List ℕ
packed s = s.held.chars ++ numbers_of s

-- the state of the bytes of the line and of those behind it
abbrev pub state_from : List ℕ → List ℕ → HexChunks
state_from held numbers =
    record {
      held = record { chars = held; count = word_at numbers 0 8 };
      line = word_at numbers 8 8;
      stage = stage_at numbers 16;
      begun = not (eqb (get_or numbers 26 0) 0);
      over = not (eqb (get_or numbers 27 0) 0);
    }

unfoldable pub state_of : List ℕ → HexChunks
state_of bytes = state_from (take held_size bytes) (drop held_size bytes)

abbrev pub state_size : ℕ
state_size = 550

-- "one of 40 to 45 given": of a stage that stopped
abbrev pub fault_in_range : ℕ → ℕ → Bool
fault_in_range stage number = pick (eqb stage 2) (both (leb 40 number) (leb number 45)) true

-- the ranges of the bytes behind the line: the stage and the two marks; the characters that are held, one more than the longest standing for a longer line; lines counted from 1; the fault
unfoldable pub numbers_in_range : List ℕ → Bool
numbers_in_range numbers =
    both (both (leb (get_or numbers 16 0) 2) (both (leb (get_or numbers 26 0) 1) (leb (get_or numbers 27 0) 1)))
    (both (both (leb (word_at numbers 0 8) (suc held_size)) (leb 1 (word_at numbers 8 8))) (fault_in_range (get_or numbers 16 0) (get_or numbers 17 0)))

-- the bytes are a state's: as many, and within their ranges
unfoldable pub is_state : List ℕ → Bool
is_state bytes = both (eqb (length bytes) state_size) (numbers_in_range (drop held_size bytes))
