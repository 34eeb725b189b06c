-- `hex_reader::work::put` meets its contract.
use lib.ListN.{get_or, length-set}
use Prim.Native.Nat.{◌+◌, ◌/◌, ◌%◌, ◌<◌}
use borrow.Author.Rules.{rules}
use Rattle.hex_reader.proofs.work.Puts.{sum_fits, stored, puts}
use native.Mathlib.Omega.{arith}
use Rattle.hex_reader.proofs.work.put.Goals as goal

pub overflow_add-bits : goal.overflow_add-bits
overflow_add-bits c =
    let a = c.args in
    let at = a.size + a.address / 8 in
    let small : get_or a.work.now at 0 < 256 = omega arith in
    let fits = sum_fits (get_or a.work.now at 0) (a.address % 8) 0 small (omega arith) (omega arith) c.requires.2 in
    record { fits = rw c.weight.ensures fits }

pub bounds-work-at-2 : goal.bounds-work-at-2
bounds-work-at-2 c = omega (arith, length-set c.args.work.now c.args.address c.args.byte)

pub returns : goal.returns
unfolding stored
returns c =
    let a = c.args in
    let p = c.requires in
    let small : get_or a.work.now (a.size + a.address / 8) 0 < 256 = search rules in
    rw c.weight.ensures (puts a.size a.work.now a.address a.byte p.0 p.1 p.2 small)
