-- The bytes of a state within its ranges are a state's.
use mathlib.Core.Path.{◌≡◌, refl, ap}
use mathlib.Core.Bool.{Bool, true, false}
use mathlib.Core.List.{List, ◌++◌}
use Prim.Native.Nat.{ℕ, ◌≤◌}
use native.Mathlib.Omega.{arith}
use borrow.Author.Tests.{eq-eqb, eqb-true, le-leb}
use lib.Dec.{eqb, leb, leb→le}
use Rattle.laws.proofs.Computed.{true→T}
use lib.ListN.{length, get_or, drop, length-append}
use lib.Seq.{drop_at}
use Rattle.laws.specs.Choice.{both}
use Rattle.bits.specs.Bits.{bit_of}
use Rattle.hex_reader.specs.declared.progress.Stage.{Stage}
use Rattle.hex_reader.specs.declared.progress.Stage.TheVariants.{Going, Ended}
use Rattle.std.specs.Prelude.{Result, Ok, Err}
use Rattle.hex_reader.specs.declared.fault.HexFault.{HexFault}
use Rattle.numbers.specs.Numbered.{refusal_number}
use Rattle.hex_chunks.specs.Carries.{TellsFault, InRanges}
use Rattle.hex_chunks.specs.declared.HexChunks.{HexChunks}
use Rattle.hex_calls.specs.Layout.{word_at, numbers_in, numbers_of, packed, state_of, fault_in_range, numbers_in_range, is_state}
use Rattle.hex_calls.proofs.state.Packed.{size_by}

bit_most : (b : Bool) → leb (bit_of b) 1 ≡ true
bit_most true = refl
bit_most false = refl

abbrev marks : List ℕ → Bool
marks n = both (leb (get_or n 16 0) 2) (both (leb (get_or n 26 0) 1) (leb (get_or n 27 0) 1))

marks_by : (c l : ℕ) (g : Result Stage HexFault) (b o : Bool) → marks (numbers_in c l g b o) ≡ true
marks_by c l (Ok Going) b o = rw (bit_most b, bit_most o)
marks_by c l (Ok Ended) b o = rw (bit_most b, bit_most o)
marks_by c l (Err first) b o = rw (bit_most b, bit_most o)

fault_by : (c l : ℕ) (g : Result Stage HexFault) (b o : Bool) → TellsFault g → fault_in_range (get_or (numbers_in c l g b o) 16 0) (get_or (numbers_in c l g b o) 17 0) ≡ true
fault_by c l (Ok Going) b o f = refl
fault_by c l (Ok Ended) b o f = refl
fault_by c l (Err first) b o f = rw (le-leb 40 (refusal_number first.refusal) f.0, le-leb (refusal_number first.refusal) 45 f.1)

pub is_state_lem : (bytes : List ℕ) (s : HexChunks) → length bytes ≡ 550 → bytes ≡ packed s → state_of bytes ≡ s → InRanges s → is_state bytes ≡ true
unfolding packed state_of numbers_in_range is_state
is_state_lem bytes s e p h r =
    let size = size_by s.held.count s.line s.stage s.begun s.over in
    let whole : length (s.held.chars ++ numbers_of s) ≡ 550 = rw p at e in
    let held : length s.held.chars ≡ 522 = omega (arith, length-append s.held.chars (numbers_of s)) in
    let numbers : drop 522 bytes ≡ numbers_of s = rw p (drop_at s.held.chars (numbers_of s) 522 held) in
    let count : word_at (drop 522 bytes) 0 8 ≡ s.held.count = ap (λ (t : HexChunks). t.held.count) h in
    let line : word_at (drop 522 bytes) 8 8 ≡ s.line = ap (λ (t : HexChunks). t.line) h in
    rw (
      eq-eqb (length bytes) 550 e,
      count,
      line,
      le-leb s.held.count 523 r.held,
      le-leb 1 s.line r.lines,
      numbers,
      marks_by s.held.count s.line s.stage s.begun s.over,
      fault_by s.held.count s.line s.stage s.begun s.over r.fault,
    )

first_of : (a b : Bool) → both a b ≡ true → a ≡ true
first_of true b h = refl
first_of false b h = h

pub state_length : (bytes : List ℕ) → is_state bytes ≡ true → length bytes ≡ 550
unfolding is_state
state_length bytes h = eqb-true (length bytes) 550 (first_of (eqb (length bytes) 550) (numbers_in_range (drop 522 bytes)) h)

second_of : (a b : Bool) → both a b ≡ true → b ≡ true
second_of true b h = h
second_of false b h = cc

fault-within : (stage number : ℕ) → fault_in_range stage number ≡ true → stage ≡ 2 → (40 ≤ number) × (number ≤ 45)
fault-within stage number h e =
    let f : both (leb 40 number) (leb number 45) ≡ true = rw (eq-eqb stage 2 e) at h in
    (leb→le 40 number (true→T (first_of (leb 40 number) (leb number 45) f)), leb→le number 45 (true→T (second_of (leb 40 number) (leb number 45) f)))

-- of numbers in their ranges: a fault's number
pub fault-bounds : (n : List ℕ) → numbers_in_range n ≡ true → (get_or n 16 0 ≡ 0 → ⊥) → (get_or n 16 0 ≡ 1 → ⊥) → (40 ≤ get_or n 17 0) × (get_or n 17 0 ≤ 45)
unfolding numbers_in_range
fault-bounds n h z o =
    let m : marks n ≡ true = first_of (marks n) _ h in
    let l = leb→le (get_or n 16 0) 2 (true→T (first_of (leb (get_or n 16 0) 2) _ m)) in
    fault-within (get_or n 16 0) (get_or n 17 0) (second_of _ (fault_in_range (get_or n 16 0) (get_or n 17 0)) (second_of (marks n) _ h)) (omega arith)
