-- A record by the places of its fields in the line: RECLEN at 1, LOAD OFFSET at 3, RECTYP at 7, DATA at 9.
use mathlib.Core.Path.{◌≡◌, refl, sym}
use mathlib.Core.Bool.{Bool, true, false, not}
use mathlib.Core.List.{List, [], ◌∷◌}
use Prim.Native.Nat.{ℕ, zero, suc, ◌+◌, ◌-◌, ◌*◌, ◌%◌, ◌<◌, ◌≤◌}
use Prim.Native.Char.{code}
use native.Mathlib.Omega.{arith}
use mathlib.Core.Logic.{◌⊎◌, inl, inr}
use Rattle.std.specs.Prelude.{Ok, Err}
use Rattle.std.specs.Borrow.{Bor}
use Rattle.numbers.specs.declared.Refusal.TheVariants.{MalformedOrEndWithBytes, RecordSum, RecordType}
use Rattle.hex_reader.specs.declared.line.Line.TheVariants.{Data, End}
use borrow.Author.Tests.{eq-eqb, ne_eqb}
use lib.Dec.{T, eqb, eqb→eq, ltb}
use lib.ListN.{length, get_or, take, drop, length-take, length-drop}
use lib.Seq.{get_or-drop, drop-drop}
use Rattle.laws.specs.Choice.{pick, both}
use Rattle.laws.proofs.Computed.{true→T, T→true, both_left, both_right}
use Rattle.laws.proofs.Choices.{both_false}
use Rattle.text.specs.Words.{all_digits}
use Rattle.text.specs.Hexadecimal.{digit_of}
use Rattle.numbers.specs.ComesBack.{malformed_line_or_end_with_bytes, record_sum, record_type}
use Rattle.hex_reader.specs.Record.{Judged, data_record, end_record, faulty, byte_of, bytes_of, reclen, total, is_record, record_of, line_of}
use Rattle.hex_reader.specs.Reads.{Stands, Judges}
use Rattle.hex_reader.proofs.line.Pairs.{digit_in, byte_of_pair, bytes_drop, bytes_take, bytes_length}

-- the byte of the two digits at a place
abbrev pub field_at : List ℕ → ℕ → ℕ
field_at line at = byte_of (get_or line at 0) (get_or line (at + 1) 0)

-- byte k of the record stands at place 1 + 2k of the line
field : (line : List ℕ) (k : ℕ) → 2 * k + 2 < length line → get_or (bytes_of (drop 1 line)) k 0 ≡ field_at line (1 + 2 * k)
field line k h =
    let e : 1 + 2 * k + 1 ≡ 1 + (2 * k + 1) = omega arith in
    rw (e, ← get_or-drop 1 line (2 * k) 0, ← get_or-drop 1 line (2 * k + 1) 0) (byte_of_pair k (drop 1 line) (omega (arith, length-drop 1 line)))

pub reclen_at : (line : List ℕ) → 11 ≤ length line → reclen (bytes_of (drop 1 line)) ≡ field_at line 1
reclen_at line h = field line 0 (omega arith)

pub too_short : (line : List ℕ) → length line < 11 → is_record line ≡ false
unfolding is_record
too_short line h =
    let n : eqb (length line) (1 + 2 * (5 + reclen (bytes_of (drop 1 line)))) ≡ false = ne_eqb (length line) (1 + 2 * (5 + reclen (bytes_of (drop 1 line)))) (λ e. omega arith) in
    rw (n, both_false (all_digits 16 (drop 1 line)), both_false (eqb (get_or line 0 0) (code ":")))

pub by_places : (line : List ℕ) → 11 ≤ length line → is_record line ≡ both (eqb (get_or line 0 0) (code ":")) (both (all_digits 16 (drop 1 line)) (eqb (length line) (11 + 2 * field_at line 1)))
unfolding is_record
by_places line h =
    let e : 1 + 2 * (5 + reclen (bytes_of (drop 1 line))) ≡ 11 + 2 * field_at line 1 = omega (arith, reclen_at line h) in rw e

digits-drop : (k : ℕ) (l : List ℕ) → T (all_digits 16 l) → T (all_digits 16 (drop k l))
digits-drop zero l t = t
digits-drop (suc k) [] t = tt
digits-drop (suc k) (c ∷ l) t = digits-drop k l (both_right (ltb (digit_of c) 16) (all_digits 16 l) t)

digits-take : (k : ℕ) (l : List ℕ) → all_digits 16 l ≡ true → all_digits 16 (take k l) ≡ true
digits-take zero l e = refl
digits-take (suc k) [] e = refl
digits-take (suc k) (c ∷ l) e = let t = true→T e in rw (T→true _ (both_left (ltb (digit_of c) 16) (all_digits 16 l) t)) (digits-take k l (T→true _ (both_right (ltb (digit_of c) 16) (all_digits 16 l) t)))

digits-in : (n k : ℕ) (l : List ℕ) {m : List ℕ} → T (all_digits 16 l) → drop k l ≡ m → all_digits 16 (take n m) ≡ true
digits-in n k l t e = rw (← e) (digits-take n (drop k l) (T→true _ (digits-drop k l t)))

-- the digits of a data record's bytes
abbrev pub data_digits : List ℕ → List ℕ
data_digits line = take (2 * field_at line 1) (drop 9 line)

module _ (line : List ℕ) (r : is_record line ≡ true) where
  sized : T (both (all_digits 16 (drop 1 line)) (eqb (length line) (1 + 2 * (5 + reclen (bytes_of (drop 1 line))))))
  unfolding is_record
  sized = both_right (eqb (get_or line 0 0) (code ":")) _ (true→T r)

  record_length : length line ≡ 11 + 2 * reclen (bytes_of (drop 1 line))
  record_length = omega (arith, eqb→eq (length line) (1 + 2 * (5 + reclen (bytes_of (drop 1 line)))) (both_right (all_digits 16 (drop 1 line)) _ sized))

  pub record-digits : T (all_digits 16 (drop 1 line))
  record-digits = both_left (all_digits 16 (drop 1 line)) _ sized

  pub record-long : 11 ≤ length line
  record-long = omega (arith, record_length)

  pub data-within : 9 + 2 * field_at line 1 ≤ length line
  data-within = omega (arith, record_length, reclen_at line record-long)

  -- each character after the mark is a digit
  digit_at : (i : ℕ) → i + 1 < length line → digit_of (get_or line (1 + i) 0) < 16
  digit_at i h = rw (← get_or-drop 1 line i 0) (digit_in (drop 1 line) i record-digits (omega (arith, length-drop 1 line)))

  pub digit-at : (i : ℕ) → 1 ≤ i → i < length line → digit_of (get_or line i 0) < 16
  digit-at i g h = let e : i ≡ 1 + (i - 1) = omega arith in rw e (digit_at (i - 1) (omega arith))

  pub all-digits : all_digits 16 (drop 1 line) ≡ true
  all-digits = T→true _ record-digits

  byte-below : (i : ℕ) → i + 2 < length line → field_at line (1 + i) < 256
  byte-below i h =
      let e : 1 + i + 1 ≡ 1 + (i + 1) = omega arith in rw e (omega (arith, digit_at i (omega arith), digit_at (i + 1) (omega arith)))

  pub record-stands : Stands (256 * field_at line 3 + field_at line 5) (data_digits line)
  record-stands =
      let n = record_length in
      let l = reclen_at line record-long in
      let d = length-drop 9 line in
      let s = length-take (2 * field_at line 1) (drop 9 line) in
      let k : length (bytes_of (data_digits line)) ≡ field_at line 1 = bytes_length (field_at line 1) (data_digits line) (omega arith) in
      record {
        are_digits = digits-in (2 * field_at line 1) 8 (drop 1 line) record-digits (drop-drop 8 1 line);
        pairs = rw k (omega arith);
        address_fits = omega (arith, byte-below 2 (omega arith), byte-below 4 (omega arith));
        count_fits = rw k (byte-below 0 (omega arith));
      }

-- a record's judgement by its fields
abbrev pub typed : List ℕ → Judged
typed line =
    pick (eqb (field_at line 7) 0) (data_record (256 * field_at line 3 + field_at line 5) (bytes_of (data_digits line)))
    (pick (eqb (field_at line 7) 1) end_record (faulty record_type))

abbrev pub summed : List ℕ → Judged
summed line = pick (eqb (total (bytes_of (drop 1 line)) % 256) 0) (typed line) (faulty record_sum)

abbrev pub by_fields : List ℕ → Judged
by_fields line = pick (both (eqb (field_at line 7) 1) (not (eqb (field_at line 1) 0))) (faulty malformed_line_or_end_with_bytes) (summed line)

pub by_fields_lem : (line : List ℕ) → is_record line ≡ true → line_of line ≡ by_fields line
unfolding line_of record_of
by_fields_lem line r =
    let h = record-long line r in
    let d : take (field_at line 1) (drop 4 (bytes_of (drop 1 line))) ≡ bytes_of (data_digits line) = rw (← bytes_drop 4 (drop 1 line), drop-drop 8 1 line) (sym (bytes_take (field_at line 1) (drop 9 line))) in
    rw (r, field line 3 (omega arith), reclen_at line h, field line 1 (omega arith), field line 2 (omega arith), d)

-- each answer about a record
module _ (line : List ℕ) (r : is_record line ≡ true) where
  pub end_with_bytes : field_at line 7 ≡ 1 → (field_at line 1 ≡ 0 → ⊥) → Judges line (Err MalformedOrEndWithBytes)
  end_with_bytes k n =
      record {
        meaning = sym (rw (by_fields_lem line r, eq-eqb (field_at line 7) 1 k, ne_eqb (field_at line 1) 0 n));
        placed = tt;
        long = tt;
      }

  module _ (e : (field_at line 7 ≡ 1 × field_at line 1 ≡ 0) ⊎ (field_at line 7 ≡ 1 → ⊥)) where
    not_end : both (eqb (field_at line 7) 1) (not (eqb (field_at line 1) 0)) ≡ false
    not_end = elim e [ inl h ↦ rw (eq-eqb (field_at line 7) 1 h.0, eq-eqb (field_at line 1) 0 h.1) | inr h ↦ rw (ne_eqb (field_at line 7) 1 h) ]

    pub wrong_sum : (total (bytes_of (drop 1 line)) % 256 ≡ 0 → ⊥) → Judges line (Err RecordSum)
    wrong_sum n =
        record {
          meaning = sym (rw (by_fields_lem line r, not_end, ne_eqb (total (bytes_of (drop 1 line)) % 256) 0 n));
          placed = tt;
          long = tt;
        }

    module _ (s : total (bytes_of (drop 1 line)) % 256 ≡ 0) where
      summed-typed : line_of line ≡ typed line
      summed-typed = rw (by_fields_lem line r, not_end, eq-eqb (total (bytes_of (drop 1 line)) % 256) 0 s)

      pub data-judged : field_at line 7 ≡ 0 → (address : ℕ) (digits : Bor (List ℕ)) → address ≡ 256 * field_at line 3 + field_at line 5 → digits.now ≡ data_digits line → Judges line (Ok (Data address digits))
      data-judged k address digits a d =
          record {
            meaning = sym (rw (summed-typed, eq-eqb (field_at line 7) 0 k, a, d));
            placed = rw (a, d) (record-stands line r);
            long = record-long line r;
          }

      pub end-judged : field_at line 7 ≡ 1 → Judges line (Ok End)
      end-judged k =
          record {
            meaning = sym (rw (summed-typed, ne_eqb (field_at line 7) 0 (λ z. omega arith), eq-eqb (field_at line 7) 1 k));
            placed = tt;
            long = record-long line r;
          }

      pub wrong_type : (field_at line 7 ≡ 0 → ⊥) → (field_at line 7 ≡ 1 → ⊥) → Judges line (Err RecordType)
      wrong_type z n =
          record {
            meaning = sym (rw (summed-typed, ne_eqb (field_at line 7) 0 z, ne_eqb (field_at line 7) 1 n));
            placed = tt;
            long = tt;
          }

pub no_record : (line : List ℕ) → is_record line ≡ false → line_of line ≡ faulty malformed_line_or_end_with_bytes
unfolding line_of
no_record line r = rw r

-- a record has 255 bytes of data at most
record_short : (line : List ℕ) → is_record line ≡ true → length line ≤ 521
record_short line r =
    omega (arith, record_length line r, reclen_at line (record-long line r), byte-below line r 0 (omega (arith, record-long line r)))

long_by : (line : List ℕ) (t : Bool) → 521 < length line → is_record line ≡ t → line_of line ≡ faulty malformed_line_or_end_with_bytes
long_by line true h e = absurd (let s = record_short line e in omega arith)
long_by line false h e = no_record line e

pub long_line : (line : List ℕ) → 521 < length line → line_of line ≡ faulty malformed_line_or_end_with_bytes
long_line line h = long_by line (is_record line) h refl
