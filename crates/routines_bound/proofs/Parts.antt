-- The first elements of lent arrays: their length, zeros among zeros, and an array for each node.
use mathlib.Core.Path.{◌≡◌, sym, ◌∙◌}
use mathlib.Core.List.{List}
use Prim.Native.Nat.{ℕ, ◌≤◌, ◌<◌}
use native.Mathlib.Omega.{arith}
use native.Mathlib.Decide.{dec_lt}
use lib.ListN.{length, get_or, take}
use lib.Seq.{length-take-le, get_or-take}
use Rattle.graph_search.specs.Marks.{Blank}
use Rattle.graph_search.proofs.Zeros.{marked_lt}
use Rattle.routines_numbered.specs.Packed.{nodes_in}
use Rattle.routines_bound.specs.Handler.{NoCall}

pub part_length : (n : ℕ) {k : ℕ} (l : List ℕ) → length l ≡ k → n ≤ k → n ≡ length (take n l)
part_length n l e h = sym (length-take-le n l (omega (arith, e, h)))

pub part_blank : (n : ℕ) (l : List ℕ) → n ≤ length l → Blank l → Blank (take n l)
part_blank n l h b = record { at = λ i. go i (dec_lt i n) }
  where
    go : (i : ℕ) → Dec (i < n) → get_or (take n l) i 0 ≡ 0
    go i (yes lt) = get_or-take n l i 0 lt ∙ b.at i
    go i (no ge) = past (dec_lt 0 (get_or (take n l) i 0))
      where
        past : Dec (0 < get_or (take n l) i 0) → get_or (take n l) i 0 ≡ 0
        past (yes m) = absurd (omega (arith, ge, length-take-le n l h, marked_lt (take n l) i m))
        past (no z) = omega (arith, z)

-- of the first words none is a call
pub no_call-part : (n : ℕ) (x : List ℕ) → n ≤ length x → NoCall (take n x) (length (take n x)) → NoCall x n
unfolding nodes_in
no_call-part n x h none v l e =
    none v (omega (arith, l, length-take-le n x h)) (rw (get_or-take n x v 0 l) e)
