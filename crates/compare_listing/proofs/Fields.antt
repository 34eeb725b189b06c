-- What the runner prints for a step has eight fields with single blanks between.
use mathlib.Core.Path.{◌≡◌, refl}
use mathlib.Core.Bool.{Bool, true, false}
use mathlib.Core.List.{List, [], ◌∷◌, ◌++◌, append_assoc, append-nil}
use Prim.Native.Nat.{ℕ, zero, suc, ◌/◌, ◌%◌}
use lib.Dec.{ltb}
use lib.ListN.{get_or}
use Rattle.laws.specs.Choice.{pick}
use Rattle.laws.proofs.Computed.{true→T}
use Rattle.bits.specs.Bits.{bit_of}
use Rattle.record.specs.declared.Core.{Core}
use Rattle.record.specs.declared.Registers.{Registers}
use Rattle.text.specs.Digits.{characters, digit, in_base, hex, decimal, places_within, places_of}
use Rattle.listing.specs.Lines.{column, flag_text, flags_text, registers_text}
use Rattle.compare_lines.specs.Lines.{is_blank, parts_of, full, full_parts}

-- characters without a blank among them
abbrev solid : List ℕ → Bool
solid [] = true
solid (c ∷ cs) = pick (is_blank c) false (solid cs)

solid_first : (c : ℕ) (w : List ℕ) (t : Bool) → is_blank c ≡ t → solid (c ∷ w) ≡ true → (is_blank c ≡ false) × (solid w ≡ true)
solid_first c w true e h = let f : false ≡ true = rw e at h in absurd (true→T f)
solid_first c w false e h = (e, rw e at h)

solid_append : (s t : List ℕ) → solid s ≡ true → solid t ≡ true → solid (s ++ t) ≡ true
solid_append [] t p q = q
solid_append (c ∷ s) t p q = let f = solid_first c s (is_blank c) refl p in rw f.0 (solid_append s t f.1 q)

solid_at : (s : List ℕ) (i : ℕ) → solid s ≡ true → is_blank (get_or s i 0) ≡ false
solid_at [] i p = refl
solid_at (c ∷ s) zero p = (solid_first c s (is_blank c) refl p).0
solid_at (c ∷ s) (suc i) p = solid_at s i (solid_first c s (is_blank c) refl p).1

solid_digit : (d : ℕ) → is_blank (digit d) ≡ false
unfolding digit
solid_digit d = solid_at (characters "0123456789ABCDEF") d refl

solid_number : (base n v : ℕ) → solid (in_base base n v) ≡ true
unfolding in_base
solid_number base zero v = refl
solid_number base (suc n) v = solid_append (in_base base n (v / base)) (digit (v % base) ∷ []) (solid_number base n (v / base)) (rw (solid_digit (v % base)))

-- a field: some characters, none of them a blank
record Field (p : List ℕ) : Type 0 where
  pub some : full p ≡ true
  pub solid : solid p ≡ true

full_last : (s : List ℕ) (c : ℕ) → full (s ++ (c ∷ [])) ≡ true
full_last [] c = refl
full_last (d ∷ s) c = refl

full_append : (s t : List ℕ) → full s ≡ true → full (s ++ t) ≡ true
full_append [] t h = absurd (true→T h)
full_append (c ∷ s) t h = refl

full_number : (base n v : ℕ) → full (in_base base (suc n) v) ≡ true
unfolding in_base
full_number base n v = full_last (in_base base n (v / base)) (digit (v % base))

number : (base n v : ℕ) → Field (in_base base (suc n) v)
number base n v = record { some = full_number base n v; solid = solid_number base (suc n) v }

one_place : (n v : ℕ) → (k : ℕ) × (places_within n v ≡ suc k)
one_place zero v = (0, refl)
one_place (suc n) v = by (ltb v 10)
  where
    by : (t : Bool) → (k : ℕ) × (pick t 1 (suc (places_within n (v / 10))) ≡ suc k)
    by true = (0, refl)
    by false = (places_within n (v / 10), refl)

decimal_field : (v : ℕ) → Field (decimal v)
unfolding places_of
decimal_field v = let k = one_place v v in rw k.1 (number 10 k.0 v)

flags_field : (r : Registers) → Field (flags_text r)
flags_field r = record {
  some = full_append (flag_text r.cf) (flag_text r.zf ++ flag_text r.sf) (full_number 2 0 (bit_of r.cf));
  solid =
      solid_append (flag_text r.cf) (flag_text r.zf ++ flag_text r.sf) (solid_number 2 1 (bit_of r.cf))
      (solid_append (flag_text r.zf) (flag_text r.sf) (solid_number 2 1 (bit_of r.zf)) (solid_number 2 1 (bit_of r.sf)));
}

-- a field before a blank is the first part, and one alone the only part
parts_solid : (p rest : List ℕ) → solid p ≡ true → parts_of (p ++ (32 ∷ rest)) ≡ p ∷ parts_of rest
parts_solid [] rest s = refl
parts_solid (c ∷ p) rest s = let f = solid_first c p (is_blank c) refl s in rw (f.0, parts_solid p rest f.1)

parts_alone : (p : List ℕ) → solid p ≡ true → parts_of p ≡ p ∷ []
parts_alone [] s = refl
parts_alone (c ∷ p) s = let f = solid_first c p (is_blank c) refl s in rw (f.0, parts_alone p f.1)

-- so many fields
abbrev Fields : ℕ → List ℕ → Type 0
Fields n text = full_parts n (parts_of text) ≡ true

last_field : (p : List ℕ) → Field p → Fields 1 p
last_field p f = rw (parts_alone p f.solid, f.some)

one_more : (n : ℕ) (p rest : List ℕ) → Field p → Fields n rest → Fields (suc n) (column p ++ rest)
one_more n p rest f h = rw (append_assoc p (32 ∷ []) rest, parts_solid p rest f.solid, f.some) h

regrouped : (a b c d e t : List ℕ) → (a ++ (b ++ (c ++ (d ++ (e ++ []))))) ++ t ≡ a ++ (b ++ (c ++ (d ++ (e ++ t))))
regrouped a b c d e t = simp (append_assoc, append-nil)

pub step_fields : (m : Core) (cycles stop : ℕ) → full_parts 8 (parts_of (registers_text m.pc m.regs m.ptrs.sp ++ (column (flags_text m.regs) ++ (column (decimal cycles) ++ in_base 10 2 stop)))) ≡ true
step_fields m cycles stop =
    let r = m.regs in
    rw (regrouped (column (hex 4 m.pc)) (column (hex 1 r.acc)) (column (hex 1 r.hr)) (column (hex 1 r.lr)) (column (hex 1 m.ptrs.sp)) (column (flags_text r) ++ (column (decimal cycles) ++ in_base 10 2 stop)))
    (one_more 7 (hex 4 m.pc) _ (number 16 3 m.pc)
    (one_more 6 (hex 1 r.acc) _ (number 16 0 r.acc)
    (one_more 5 (hex 1 r.hr) _ (number 16 0 r.hr)
    (one_more 4 (hex 1 r.lr) _ (number 16 0 r.lr)
    (one_more 3 (hex 1 m.ptrs.sp) _ (number 16 0 m.ptrs.sp)
    (one_more 2 (flags_text r) _ (flags_field r)
    (one_more 1 (decimal cycles) _ (decimal_field cycles)
    (last_field (in_base 10 2 stop) (number 10 1 stop)))))))))
