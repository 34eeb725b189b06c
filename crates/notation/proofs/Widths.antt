-- A row in the sheet's notation has at most 16 characters.
use mathlib.Core.Bool.{Bool, true, false}
use mathlib.Core.List.{List, [], ◌∷◌, ◌++◌}
use Prim.Native.Nat.{ℕ, ◌+◌, ◌<◌, ◌≤◌}
use native.Mathlib.Omega.{arith}
use lib.Dec.{T, leb, leb→le}
use lib.ListN.{length, length-append}
use Rattle.laws.specs.Choice.{pick}
use Rattle.laws.proofs.Computed.{below, at as at_row}
use Rattle.sheet.specs.Table.{line_at}
use Rattle.sheet.specs.declared.Insn.{Insn}
use Rattle.text.specs.Digits.{in_base, places_of}
use Rattle.std.specs.Prelude.{unwrap_or}
use Rattle.sheet.specs.Flow.{goes_to}
use Rattle.notation.specs.Notation.{is, sign, spelled, mnemonic_of, row_text}
use Rattle.text.proofs.digits.Numbers.{digits_length, places_up_to}

-- the most characters that a sign of a mnemonic can stand for
abbrev wide : ℕ → ℕ
wide c =
    pick (is "k" c) 2
    (pick (is "x" c) 3 (pick (is "y" c) 2 (pick (is "b" c) 1 (pick (is "p" c) 4 (pick (is "r" c) 7 (pick (is "a" c) 5 1))))))

of_pick : (t : Bool) (s u : List ℕ) (m n : ℕ) → length s ≤ m → length u ≤ n → length (pick t s u) ≤ pick t m n
of_pick true s u m n g h = g
of_pick false s u m n g h = h

digits_and : (base n v c : ℕ) → length (in_base base n v ++ (c ∷ [])) ≤ n + 1
digits_and base n v c = omega (arith, length-append (in_base base n v) (c ∷ []), digits_length base n v)

sign_width : (at : ℕ) (i : Insn) (c : ℕ) → i.b < 256 → length (sign at i c) ≤ wide c
unfolding sign
sign_width at i c h =
    of_pick (is "k" c) _ _ _ _ (digits_and 16 1 i.a 104)
    (of_pick (is "x" c) _ _ _ _ (digits_and 16 2 i.a 104)
    (of_pick (is "y" c) _ _ _ _ (digits_and 16 1 i.b 104)
    (of_pick (is "b" c) _ _ _ _ (omega (arith, digits_length 10 1 i.a))
    (of_pick (is "p" c) _ _ _ _ (omega (arith, digits_length 10 (places_of i.b) i.b, places_up_to 2 i.b (omega arith)))
    (of_pick (is "r" c) _ _ _ _ (digits_and 2 6 i.a 66)
    (of_pick (is "a" c) _ _ _ _ (digits_and 16 4 (unwrap_or (goes_to at i) 0) 104) (omega arith)))))))

abbrev widths : List ℕ → ℕ
widths [] = 0
widths (c ∷ cs) = wide c + widths cs

spelled_width : (at : ℕ) (i : Insn) (cs : List ℕ) → i.b < 256 → length (spelled at i cs) ≤ widths cs
spelled_width at i [] h = omega arith
spelled_width at i (c ∷ cs) h = omega (arith, length-append (sign at i c) (spelled at i cs), sign_width at i c h, spelled_width at i cs h)

abbrev narrow : ℕ → Bool
narrow n = leb (widths (mnemonic_of n)) 16

all_narrow : T (below 256 narrow)
unfolding line_at
all_narrow = tt

pub row_width : (at : ℕ) (i : Insn) → i.row < 256 → i.b < 256 → length (row_text at i) ≤ 16
row_width at i l h = omega (arith, spelled_width at i (mnemonic_of i.row) h, leb→le (widths (mnemonic_of i.row)) 16 (at_row narrow 256 all_narrow i.row l))
