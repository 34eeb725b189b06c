-- `hex_calls::state::unpack` meets its contract.
use mathlib.Core.Path.{◌≡◌, sym, ◌∙◌}
use mathlib.Core.Bool.{true, false}
use lib.ListN.{length, drop}
use lib.Seq.{length-take-le}
use native.Mathlib.Omega.{arith}
use borrow.Author.Tests.{eq-eqb, ne_eqb}
use Rattle.hex_calls.specs.Layout.{state_of, numbers_in_range, is_state}
use Rattle.hex_calls.proofs.state.Packed.{rest_of}
use Rattle.hex_calls.proofs.state.unpack.Goals as goal

pub returns-then-b-ne-STATE_SIZE : goal.returns-then-b-ne-STATE_SIZE
unfolding is_state
returns-then-b-ne-STATE_SIZE c = rw (ne_eqb (length c.args.b.now) 550 c.if-b-ne-STATE_SIZE.true)

pub returns-then-not-numbers_in_range : goal.returns-then-not-numbers_in_range
unfolding is_state
returns-then-not-numbers_in_range c =
    let n : numbers_in_range (drop 522 c.args.b.now) ≡ false = rw (rest_of c.args.b.now) at (sym c.numbers_in_range.ensures ∙ c.if-not-numbers_in_range.true) in
    rw (eq-eqb (length c.args.b.now) 550 c.if-b-ne-STATE_SIZE.false, n)

pub slice_bounds-copy_from_slice-end-2 : goal.slice_bounds-copy_from_slice-end-2
slice_bounds-copy_from_slice-end-2 c = sym (length-take-le 522 c.args.b.now (omega arith))

pub copy_from_slice-requires : goal.copy_from_slice-requires
copy_from_slice-requires c = sym (length-take-le 522 c.args.b.now (omega arith))

pub returns : goal.returns
unfolding state_of is_state
returns c =
    let n : numbers_in_range (drop 522 c.args.b.now) ≡ true = rw (rest_of c.args.b.now) at (sym c.numbers_in_range.ensures ∙ c.if-not-numbers_in_range.false) in
    (rw (eq-eqb (length c.args.b.now) 550 c.if-b-ne-STATE_SIZE.false, n), rw (c.copy_from_slice.ensures.after, c.word_at.ensures, c.word_at-2.ensures, c.stage_at.ensures, rest_of c.args.b.now))
