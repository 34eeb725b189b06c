-- `routines_bound::measured` meets its contract.
use mathlib.Core.Path.{◌≡◌, refl, sym}
use native.Mathlib.Omega.{arith}
use lib.ListN.{length, replicate, take}
use Prim.Native.Nat.{ℕ}
use Rattle.graph_search.proofs.Zeros.{blank_zeros}
use Rattle.routines_sums.proofs.Settling.{priced_at}
use Rattle.routines_bound.proofs.Parts.{part_length, part_blank}
use Rattle.routines_bound.proofs.measured.Goals as goal

pub settle-requires : goal.settle-requires
settle-requires c =
    let pre = c.requires in
    let n = c.args.n in
    let sums : n ≡ length {A = ℕ} (take n (replicate 16384 0)) = part_length n (replicate 16384 0) refl pre.0.few in (
      priced_at (sym sums) pre.0,
      omega (arith, pre.1, sums),
      part_blank n (replicate 16384 0) pre.0.few (blank_zeros 16384),
      part_blank n (replicate 16384 0) pre.0.few (blank_zeros 16384),
      refl,
    )
