-- A written record is a line, and is judged as what was written.
use mathlib.Core.Path.{◌≡◌, refl, sym, ap, subst, ◌∙◌}
use mathlib.Core.Bool.{true}
use mathlib.Core.List.{List, [], ◌∷◌, ◌++◌, append_assoc, append-nil}
use Prim.Native.Nat.{ℕ, suc, ◌+◌, ◌*◌, ◌/◌, ◌%◌, ◌<◌}
use native.Mathlib.Omega.{arith}
use borrow.Author.Tests.{eq-eqb, ne_eqb}
use lib.Dec.{lit<}
use lib.ListN.{length, get_or, length-append}
use lib.Seq.{take_at}
use Rattle.text.specs.Script.{up_to}
use Rattle.text.specs.Words.{all_digits}
use Rattle.text.specs.Hexadecimal.{digit_of}
use Rattle.text.specs.Digits.{hex, digit, in_base}
use Rattle.hex_reader.specs.Record.{data_record, end_record, bytes_of, total, is_record, record_of, line_of}
use Rattle.hex_reader.specs.Lines.{hex_lines, without_cr}
use Rattle.hex_reader.proofs.lines.Splits.{ended}
use Rattle.hex_writer.specs.Writer.{hex_bytes, chksum, record_line, record_text, data_fields, end_fields}
use Rattle.hex_writer.proofs.Texts.{hex_append, hex_length, total_append}
use Rattle.hex_writer.proofs.round_trip.Characters.{Small, small_append, Plain, bytes_back, all_digits_lem, plain_hex}

-- no character ends the line
plain_up_to : (s : List ℕ) → Plain s → up_to s ≡ length s
plain_up_to [] p = refl
plain_up_to (c ∷ s) p = let l = p.0 in rw (ne_eqb c 10 (λ e. omega arith)) (ap suc (plain_up_to s p.1))

plain_kept : (s : List ℕ) → Plain s → without_cr s ≡ s
plain_kept [] p = refl
plain_kept (c ∷ []) p = let l = p.0 in rw (ne_eqb c 13 (λ e. omega arith))
plain_kept (c ∷ d ∷ s) p = ap (λ (l : List ℕ). c ∷ l) (plain_kept (d ∷ s) p.1)

-- the fields with CHKSUM
abbrev summed : List ℕ → List ℕ
summed fields = fields ++ (chksum fields ∷ [])

line_of_bytes : (fields : List ℕ) → record_line fields ≡ 58 ∷ hex_bytes (summed fields)
line_of_bytes fields =
    rw (hex_append fields (chksum fields ∷ []), append-nil (hex 2 (chksum fields)))

pub first_record : (fields rest : List ℕ) → hex_lines (record_text fields ++ rest) ≡ record_line fields ∷ hex_lines rest
unfolding record_text
first_record fields rest =
    let p : Plain (record_line fields) = subst Plain (sym (line_of_bytes fields)) (lit< tt, plain_hex (summed fields)) in
    ap hex_lines (append_assoc (record_line fields) (10 ∷ []) rest)
    ∙ (ended (record_line fields) rest (plain_up_to (record_line fields) p) ∙ ap (λ (l : List ℕ). l ∷ hex_lines rest) (plain_kept (record_line fields) p))

sum_right : (fields : List ℕ) → total (summed fields) % 256 ≡ 0
sum_right fields = omega (arith, total_append fields (chksum fields ∷ []))

chksum_small : (fields : List ℕ) → chksum fields < 256
chksum_small fields = omega arith

-- digits of bytes, of which the first says how many follow
judged_digits : (digits bytes : List ℕ) → all_digits 16 digits ≡ true → bytes_of digits ≡ bytes → suc (length digits) ≡ 1 + 2 * (5 + get_or bytes 0 0) → line_of (58 ∷ digits) ≡ record_of bytes
unfolding line_of is_record
judged_digits digits bytes a b n = rw (a, b, eq-eqb (suc (length digits)) (1 + 2 * (5 + get_or bytes 0 0)) n)

judged_by : (fields : List ℕ) → Small fields → length fields ≡ 4 + get_or (summed fields) 0 0 → line_of (record_line fields) ≡ record_of (summed fields)
judged_by fields s e =
    ap line_of (line_of_bytes fields)
    ∙ judged_digits (hex_bytes (summed fields)) (summed fields) (all_digits_lem (summed fields)) (bytes_back (summed fields) (small_append fields (chksum fields ∷ []) s (chksum_small fields, tt))) (omega (arith, hex_length (summed fields), length-append fields (chksum fields ∷ [])))

pub data_line : (address : ℕ) (bytes : List ℕ) → address < 65536 → length bytes < 256 → Small bytes → line_of (record_line (data_fields address bytes)) ≡ data_record address bytes
unfolding record_of
data_line address bytes a l s =
    let f = data_fields address bytes in
    let o : 256 * (address / 256) + address % 256 ≡ address = omega arith in
    judged_by f (l, (omega arith, (omega arith, (lit< tt, s)))) (omega arith)
    ∙ rw (eq-eqb _ 0 (sum_right f), o, take_at bytes (chksum f ∷ []) (length bytes) refl)

pub end_line : line_of (record_line end_fields) ≡ end_record
unfolding line_of record_of is_record digit_of digit in_base
end_line = refl
