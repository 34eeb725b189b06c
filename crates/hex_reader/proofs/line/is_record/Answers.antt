-- `hex_reader::line::is_record` meets its contract.
use mathlib.Core.Path.{◌≡◌, sym, ◌∙◌}
use mathlib.Core.Bool.{Bool, true, false}
use Prim.Native.Nat.{◌-◌}
use borrow.Author.Tests.{lt-leb}
use lib.Dec.{eqb}
use lib.ListN.{length, get_or, drop, length-drop}
use lib.Seq.{take_all}
use Rattle.text.specs.Words.{all_digits}
use Rattle.hex_reader.proofs.line.Pairs.{after_mark}
use Rattle.hex_reader.proofs.line.Records.{too_short, by_places}
use Rattle.laws.proofs.Choices.{both_false}
use native.Mathlib.Omega.{arith}
use Rattle.hex_reader.proofs.line.is_record.Goals as goal
use Rattle.hex_reader.proofs.line.is_record.Goals.{then-line-ge-SHORTEST, else-line-ge-SHORTEST, then-line-eq58, else-line-eq58}

differ : {b : Bool} → b ≡ false → b ≡ true → ⊥
differ e f = cc

pub byte_at-requires : goal.byte_at-requires
byte_at-requires c =
    let l = c.args.line.now in
    elim c.if-line-eq58.branch [
      | then-line-eq58 w ↦
          elim c.if-line-ge-SHORTEST.branch [
            | then-line-ge-SHORTEST v ↦
                let g = v.if-line-ge-SHORTEST.true in
                let d : all_digits 16 (drop 1 l) ≡ true = rw (take_all (length l - 1) (drop 1 l) (omega (arith, length-drop 1 l))) at (sym w.are_digits.ensures ∙ (sym w.value-is ∙ c.if-are_digits.true)) in
                let m = after_mark l d (omega arith) in (omega arith, m.0, m.1)
            | else-line-ge-SHORTEST v ↦ absurd (differ (v.value-is ∙ lt-leb 11 (length l) v.if-line-ge-SHORTEST.false) w.if-line-eq58.true)
          ]
      | else-line-eq58 w ↦ absurd (differ (w.value-is ∙ w.if-line-eq58.false) c.if-are_digits.true)
    ]

pub returns-then-are_digits : goal.returns-then-are_digits
returns-then-are_digits c =
    let l = c.args.line.now in
    elim c.if-line-eq58.branch [
      | then-line-eq58 w ↦
          elim c.if-line-ge-SHORTEST.branch [
            | then-line-ge-SHORTEST v ↦
                let m : eqb (get_or l 0 0) 58 ≡ true = sym v.value-is ∙ w.if-line-eq58.true in
                let d : all_digits 16 (drop 1 l) ≡ true = rw (take_all (length l - 1) (drop 1 l) (omega (arith, length-drop 1 l))) at (sym w.are_digits.ensures ∙ (sym w.value-is ∙ c.if-are_digits.true)) in
                rw (by_places l v.if-line-ge-SHORTEST.true, m, d, c.from.ensures, c.byte_at.ensures)
            | else-line-ge-SHORTEST v ↦ absurd (differ (v.value-is ∙ lt-leb 11 (length l) v.if-line-ge-SHORTEST.false) w.if-line-eq58.true)
          ]
      | else-line-eq58 w ↦ absurd (differ (w.value-is ∙ w.if-line-eq58.false) c.if-are_digits.true)
    ]

pub returns-else-are_digits : goal.returns-else-are_digits
returns-else-are_digits c =
    let l = c.args.line.now in
    elim c.if-line-ge-SHORTEST.branch [
      | then-line-ge-SHORTEST v ↦
          elim c.if-line-eq58.branch [
            | then-line-eq58 w ↦
                let d : all_digits 16 (drop 1 l) ≡ false = rw (take_all (length l - 1) (drop 1 l) (omega (arith, length-drop 1 l))) at (sym w.are_digits.ensures ∙ (sym w.value-is ∙ c.if-are_digits.false)) in
                rw (c.if-are_digits.false, by_places l v.if-line-ge-SHORTEST.true, d, both_false _)
            | else-line-eq58 w ↦
                let m : eqb (get_or l 0 0) 58 ≡ false = sym v.value-is ∙ w.if-line-eq58.false in
                rw (c.if-are_digits.false, by_places l v.if-line-ge-SHORTEST.true, m)
          ]
      | else-line-ge-SHORTEST v ↦ rw (c.if-are_digits.false, too_short l v.if-line-ge-SHORTEST.false)
    ]
