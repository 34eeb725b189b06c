-- `row_dispatch::groups::groups_from` meets its contract.
use native.Mathlib.Omega.{arith}
use Rattle.row_dispatch.proofs.Packing.{packed_at}
use Rattle.row_dispatch.proofs.groups.groups_from.Goals as goal

pub returns-in-0 : goal.returns-in-0
returns-in-0 c = packed_at 0 _ _ c.in-0.is tt

pub returns-in-1 : goal.returns-in-1
returns-in-1 c = packed_at 1 _ _ c.in-1.is tt

pub returns-in-2 : goal.returns-in-2
returns-in-2 c = packed_at 2 _ _ c.in-2.is tt

pub returns-in-3 : goal.returns-in-3
returns-in-3 c = packed_at 3 _ _ c.in-3.is tt

pub returns-in-4 : goal.returns-in-4
returns-in-4 c = packed_at 4 _ _ c.in-4.is tt

pub returns-in-5 : goal.returns-in-5
returns-in-5 c = packed_at 5 _ _ c.in-5.is tt

pub returns-in-6 : goal.returns-in-6
returns-in-6 c = packed_at 6 _ _ c.in-6.is tt

pub returns-in-7 : goal.returns-in-7
returns-in-7 c = packed_at 7 _ _ c.in-7.is tt

pub returns-in-8 : goal.returns-in-8
returns-in-8 c = packed_at 8 _ _ c.in-8.is tt

pub returns-in-9 : goal.returns-in-9
returns-in-9 c = packed_at 9 _ _ c.in-9.is tt

pub returns-in-10 : goal.returns-in-10
returns-in-10 c = packed_at 10 _ _ c.in-10.is tt

pub returns-in-11 : goal.returns-in-11
returns-in-11 c = packed_at 11 _ _ c.in-11.is tt

pub returns-in-12 : goal.returns-in-12
returns-in-12 c = packed_at 12 _ _ c.in-12.is tt

pub returns-in_default : goal.returns-in_default
returns-in_default c = packed_at 13 _ _ (omega arith) tt
