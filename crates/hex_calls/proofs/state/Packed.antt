-- The bytes of a state are that state.
use mathlib.Core.Path.{◌≡◌, refl, sym, ap, ap₂, ◌∙◌}
use mathlib.Core.Bool.{Bool, true, false, not}
use mathlib.Core.List.{List, [], ◌++◌, append-nil}
use Prim.Native.Nat.{ℕ, ◌-◌, ◌^◌, ◌<◌}
use native.Mathlib.Omega.{arith}
use lib.Dec.{eqb}
use lib.ListN.{length, take, drop, length-append, length-drop, drop_of_length-le}
use lib.Seq.{take_all, take_at, drop_at}
use borrow.Rule.Slice.PartMut.{put_mid}
use Rattle.std.proofs.lemmas.List.{take-append-drop}
use Rattle.std.proofs.lemmas.Slice.{take-put_mid, drop-put_mid}
use Rattle.bits.specs.Bits.{bit_of}
use Rattle.hex_reader.specs.declared.progress.Stage.{Stage}
use Rattle.hex_reader.specs.declared.progress.Stage.TheVariants.{Going, Ended}
use Rattle.std.specs.Prelude.{Result, Ok, Err}
use Rattle.hex_reader.specs.declared.fault.HexFault.{HexFault}
use Rattle.numbers.specs.Numbered.{refusal_number, refusal_of_number}
use Rattle.numbers.proofs.OneNumber.{refusal_back}
use Rattle.hex_chunks.specs.declared.HexChunks.{HexChunks}
use Rattle.hex_calls.specs.Layout.{StageFits, numbers_in, numbers_of, packed, state_from, state_of}
use Rattle.hex_calls.proofs.state.Words.{word_back}

bit_back : (b : Bool) → not (eqb (bit_of b) 0) ≡ b
bit_back true = refl
bit_back false = refl

make : List ℕ → ℕ → ℕ → Result Stage HexFault → Bool → Bool → HexChunks
make h c l g b o = record { held = record { chars = h; count = c }; line = l; stage = g; begun = b; over = o }

fault_back : (first : HexFault) (m : ℕ) → m ≡ first.line → ◌≡◌ {A = HexFault} (record { refusal = refusal_of_number (refusal_number first.refusal); line = m }) first
fault_back first m e = λ i. record { refusal = refusal_back first.refusal i; line = e i }

numbers_by : (h : List ℕ) (c l : ℕ) (g : Result Stage HexFault) (b o : Bool) → c < 2 ^ 64 → l < 2 ^ 64 → StageFits g → state_from h (numbers_of (make h c l g b o)) ≡ make h c l g b o
unfolding make
numbers_by h c l (Ok Going) b o p q r = rw (word_back c p, word_back l q, bit_back b, bit_back o)
numbers_by h c l (Ok Ended) b o p q r = rw (word_back c p, word_back l q, bit_back b, bit_back o)
numbers_by h c l (Err first) b o p q r = rw (word_back c p, word_back l q, fault_back first _ (word_back first.line r), bit_back b, bit_back o)

pub state_back : (s : HexChunks) → length s.held.chars ≡ 522 → s.held.count < 2 ^ 64 → s.line < 2 ^ 64 → StageFits s.stage → state_of (packed s) ≡ s
unfolding state_of packed make
state_back s e p q r =
    rw (take_at s.held.chars (numbers_of s) 522 e, drop_at s.held.chars (numbers_of s) 522 e) (numbers_by s.held.chars s.held.count s.line s.stage s.begun s.over p q r)

pub size_by : (c l : ℕ) (g : Result Stage HexFault) (b o : Bool) → length (numbers_in c l g b o) ≡ 28
size_by c l (Ok Going) b o = refl
size_by c l (Ok Ended) b o = refl
size_by c l (Err first) b o = refl

pub packed_size : (s : HexChunks) → length s.held.chars ≡ 522 → length (packed s) ≡ 550
unfolding packed
packed_size s e = omega (arith, length-append s.held.chars (numbers_of s), size_by s.held.count s.line s.stage s.begun s.over)

-- the line and the numbers written into 550 bytes
pub packed_written : (s : HexChunks) (h n out : List ℕ) → length s.held.chars ≡ 522 → h ≡ s.held.chars → n ≡ numbers_of s → length out ≡ 550 → put_mid 522 (length (h ++ drop 522 out) - 522) (h ++ drop 522 out) n ≡ packed s
unfolding packed
packed_written s h n out e p q o =
    let x = h ++ drop 522 out in
    let k : length n ≡ 28 = rw q (size_by s.held.count s.line s.stage s.begun s.over) in
    let l : length h ≡ 522 = rw p e in
    let m : length x ≡ 550 = omega (arith, length-append h (drop 522 out), length-drop 522 out) in
    let t : take 550 (put_mid 522 (length x - 522) x n) ≡ h ++ n = take-put_mid 522 (length x - 522) x n 550 (omega arith) (omega arith) ∙ ap (λ (y : List ℕ). y ++ n) (take_at h (drop 522 out) 522 l) in
    let d : drop 550 (put_mid 522 (length x - 522) x n) ≡ [] = drop-put_mid 522 (length x - 522) x n 550 (omega arith) (omega arith) (omega arith) ∙ drop_of_length-le x {i = 550} (omega arith) in
    let w : take 550 (put_mid 522 (length x - 522) x n) ++ drop 550 (put_mid 522 (length x - 522) x n) ≡ h ++ n = rw (t, d) (append-nil (h ++ n)) in
    sym (take-append-drop 550 (put_mid 522 (length x - 522) x n)) ∙ (w ∙ ap₂ (λ (y z : List ℕ). y ++ z) p q)

-- what stands behind the line
pub rest_of : (b : List ℕ) → take (length b - 522) (drop 522 b) ≡ drop 522 b
rest_of b = take_all (length b - 522) (drop 522 b) (omega (arith, length-drop 522 b))
