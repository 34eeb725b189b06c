-- `hex_calls::state::pack` meets its contract.
use mathlib.Core.Path.{◌≡◌, sym, ◌∙◌}
use lib.ListN.{length}
use lib.Seq.{length-take-le}
use borrow.Author.Rules.{rules}
use native.Mathlib.Omega.{arith}
use Rattle.hex_calls.proofs.state.Packed.{state_back, packed_size, packed_written}
use Rattle.hex_calls.proofs.state.pack.Goals as goal

pub slice_bounds-copy_from_slice-end-2 : goal.slice_bounds-copy_from_slice-end-2
slice_bounds-copy_from_slice-end-2 c = sym (length-take-le 522 c.args.out.now (omega arith))

pub copy_from_slice-requires : goal.copy_from_slice-requires
copy_from_slice-requires c = let e : length c.args.s.held.chars ≡ 522 = search rules in length-take-le 522 c.args.out.now (omega arith) ∙ sym e

pub returns : goal.returns
returns c =
    let e : length c.args.s.held.chars ≡ 522 = search rules in
    let f = c.numbers_of.ensures.fits in
    let w = packed_written c.args.s c.copy_from_slice.new.self c.copy_from_slice-2.new.self c.args.out.now e c.copy_from_slice.ensures.after (c.copy_from_slice-2.ensures.after ∙ (c.as_slice.ensures ∙ c.numbers_of.ensures.text)) c.requires in
    (w, rw w (state_back c.args.s e f.0 f.1 f.2), rw w (packed_size c.args.s e))
