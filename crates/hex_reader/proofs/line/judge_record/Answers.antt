-- `hex_reader::line::judge_record` meets its contract: a record is judged by its fields.
use mathlib.Core.Path.{◌≡◌, sym, ap, ◌∙◌}
use Prim.Native.Nat.{ℕ, ◌+◌, ◌-◌, ◌*◌}
use lib.ListN.{length, take, drop, length-drop}
use lib.Seq.{take_all}
use Rattle.hex_reader.proofs.line.Records.{field_at, record-long, digit-at, all-digits, data-within, end_with_bytes, wrong_sum, data-judged, end-judged, wrong_type}
use native.Mathlib.Omega.{arith}
use Rattle.hex_reader.proofs.line.judge_record.Goals as goal

pub byte_at-count-requires : goal.byte_at-count-requires
byte_at-count-requires c = let l = record-long c.args.line.now c.requires in (omega arith, digit-at c.args.line.now c.requires 1 (omega arith) (omega arith), digit-at c.args.line.now c.requires 2 (omega arith) (omega arith))

pub byte_at-kind-requires : goal.byte_at-kind-requires
byte_at-kind-requires c = let l = record-long c.args.line.now c.requires in (omega arith, digit-at c.args.line.now c.requires 7 (omega arith) (omega arith), digit-at c.args.line.now c.requires 8 (omega arith) (omega arith))

pub returns-then-count-ne0 : goal.returns-then-count-ne0
returns-then-count-ne0 c = end_with_bytes c.args.line.now c.requires (sym c.byte_at-kind.ensures ∙ c.if-kind-eq-END_RECORD.true) (λ e. c.if-count-ne0.true (c.byte_at-count.ensures ∙ e))

pub slice_bounds-sum_of-count : goal.slice_bounds-sum_of-count
slice_bounds-sum_of-count c = omega (arith, record-long c.args.line.now c.requires)

pub slice_bounds-sum_of-start : goal.slice_bounds-sum_of-start
slice_bounds-sum_of-start c = omega (arith, record-long c.args.line.now c.requires)

pub byte_at-requires : goal.byte_at-requires
byte_at-requires c = let l = record-long c.args.line.now c.requires in (omega arith, digit-at c.args.line.now c.requires 3 (omega arith) (omega arith), digit-at c.args.line.now c.requires 4 (omega arith) (omega arith))

pub byte_at-requires-in-0 : goal.byte_at-requires-in-0
byte_at-requires-in-0 c = let l = record-long c.args.line.now c.requires in (omega arith, digit-at c.args.line.now c.requires 5 (omega arith) (omega arith), digit-at c.args.line.now c.requires 6 (omega arith) (omega arith))

pub slice_bounds-result-end : goal.slice_bounds-result-end
slice_bounds-result-end c = omega (arith, c.byte_at-count.ensures, data-within c.args.line.now c.requires)

pub sum_of-requires : goal.sum_of-requires
sum_of-requires c = rw (take_all (length c.args.line.now - 1) (drop 1 c.args.line.now) (omega (arith, length-drop 1 c.args.line.now))) (all-digits c.args.line.now c.requires)

pub returns-then-sum_of-ne0 : goal.returns-then-sum_of-ne0
returns-then-sum_of-ne0 c = wrong_sum c.args.line.now c.requires (rw (c.byte_at-kind.ensures, c.byte_at-count.ensures) at c.else-kind-eq-END_RECORD.either) (λ e. c.if-sum_of-ne0.true (c.sum_of.ensures ∙ rw (take_all (length c.args.line.now - 1) (drop 1 c.args.line.now) (omega (arith, length-drop 1 c.args.line.now))) e))

pub returns-in-0 : goal.returns-in-0
returns-in-0 c =
    let s = rw (take_all (length c.args.line.now - 1) (drop 1 c.args.line.now) (omega (arith, length-drop 1 c.args.line.now))) at (sym c.sum_of.ensures ∙ c.if-sum_of-ne0.false) in
    let e : 9 + 2 * c.from-in-0-2.result - 9 ≡ 2 * field_at c.args.line.now 1 = omega (arith, c.from-in-0-2.ensures, c.byte_at-count.ensures) in
    data-judged c.args.line.now c.requires (rw (c.byte_at-kind.ensures, c.byte_at-count.ensures) at c.else-kind-eq-END_RECORD.either) s (sym c.byte_at-kind.ensures ∙ c.in-0.is) _ _ (rw (c.from.ensures, c.from-in-0.ensures, c.byte_at.ensures, c.byte_at-in-0.ensures)) (ap (λ (n : ℕ). take n (drop 9 c.args.line.now)) e)

pub returns-in-1 : goal.returns-in-1
returns-in-1 c =
    let s = rw (take_all (length c.args.line.now - 1) (drop 1 c.args.line.now) (omega (arith, length-drop 1 c.args.line.now))) at (sym c.sum_of.ensures ∙ c.if-sum_of-ne0.false) in
    end-judged c.args.line.now c.requires (rw (c.byte_at-kind.ensures, c.byte_at-count.ensures) at c.else-kind-eq-END_RECORD.either) s (sym c.byte_at-kind.ensures ∙ c.in-1.is)

pub returns-in_default : goal.returns-in_default
returns-in_default c =
    let s = rw (take_all (length c.args.line.now - 1) (drop 1 c.args.line.now) (omega (arith, length-drop 1 c.args.line.now))) at (sym c.sum_of.ensures ∙ c.if-sum_of-ne0.false) in
    wrong_type c.args.line.now c.requires (rw (c.byte_at-kind.ensures, c.byte_at-count.ensures) at c.else-kind-eq-END_RECORD.either) s (λ e. omega (arith, c.byte_at-kind.ensures, e)) (λ e. omega (arith, c.byte_at-kind.ensures, e))
