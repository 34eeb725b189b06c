-- `bound_calls::node_by` meets its contract.
use Prim.Native.Nat.{◌+◌, ◌*◌, ◌%◌}
use native.Mathlib.Nat.{add-zero}
use Rattle.std.proofs.Common.{◌≡◌, arith}
use Rattle.bound_calls.proofs.node_by.Goals as goal

pub returns-in-0 : goal.returns-in-0
returns-in-0 c = rw (c.in-0.is, c.leaf.ensures)

pub returns-in-1 : goal.returns-in-1
returns-in-1 c = rw (c.in-1.is, c.leaf-in-1.ensures)

pub returns-in-2 : goal.returns-in-2
returns-in-2 c = rw (c.in-2.is, c.onward.ensures)

pub returns-in-3 : goal.returns-in-3
returns-in-3 c = rw (c.in-3.is, c.onward-in-3.ensures, add-zero (2 * ((c.args.at + c.args.cost.bytes) % 8192)))

pub returns-in-4 : goal.returns-in-4
returns-in-4 c = rw (c.in-4.is, c.fork.ensures)

pub returns-in-5 : goal.returns-in-5
returns-in-5 c = rw (c.in-5.is, c.fork-in-5.ensures)

pub returns-in-6 : goal.returns-in-6
returns-in-6 c = rw (c.in-6.is, c.fork-in-6.ensures)

pub returns-in-7 : goal.returns-in-7
returns-in-7 c = rw (c.in-7.is, c.call.ensures)

pub returns-in-8 : goal.returns-in-8
returns-in-8 c = rw (c.in-8.is, c.call-in-8.ensures, c.short_entry.ensures.entry)

pub returns-in_default : goal.returns-in_default
returns-in_default c = let e : c.args.way ≡ 9 = omega arith in rw (e, c.leaf-in_default.ensures)
