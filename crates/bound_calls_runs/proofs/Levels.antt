-- What a call does to the levels of the stack: the new one holds where it returns to, those above are as they were.
use mathlib.Core.Path.{◌≡◌, ◌∙◌}
use mathlib.Core.List.{List}
use Prim.Native.Nat.{ℕ, ◌+◌, ◌/◌, ◌%◌, ◌<◌, ◌≤◌}
use native.Mathlib.Nat.{add-zero}
use native.Mathlib.Omega.{arith}
use lib.ListN.{get_or, set}
use lib.Seq.{get_or-set_other}
use Rattle.record.specs.Stack.{level, stored, pc_at}
use Rattle.record.specs.declared.Machine.{Machine}
use Rattle.bound_calls_runs.specs.CallHandler.{LevelsKept}

module _ (ram : List ℕ) (n pc top : ℕ) where
  -- a nibble above the level's four
  above : (at : ℕ) → level n + 4 ≤ at → get_or (stored ram n pc top) at 0 ≡ get_or ram at 0
  above at h =
      get_or-set_other (set (set (set ram (level n) (pc % 16)) (level n + 1) (pc / 16 % 16)) (level n + 2) (pc / 256 % 16)) (level n + 3) at top 0 (omega arith)
      ∙ get_or-set_other (set (set ram (level n) (pc % 16)) (level n + 1) (pc / 16 % 16)) (level n + 2) at (pc / 256 % 16) 0 (omega arith)
      ∙ get_or-set_other (set ram (level n) (pc % 16)) (level n + 1) at (pc / 16 % 16) 0 (omega arith)
      ∙ get_or-set_other ram (level n) at (pc % 16) 0 (omega arith)

  pub above-level : (i : ℕ) → n < i → pc_at (stored ram n pc top) i ≡ pc_at ram i
  above-level i h = rw (above (level i) (omega arith), above (level i + 1) (omega arith), above (level i + 2) (omega arith), above (level i + 3) (omega arith))

-- levels whose nibbles are kept hold the same address
pub kept_level : (start : ℕ) (m n : Machine) → LevelsKept start m n → (i : ℕ) → m.core.ptrs.sp ≤ i → i < start → pc_at n.ram i ≡ pc_at m.ram i
kept_level start m n kept i l h =
    let z = add-zero (level i) in
    let first : get_or n.ram (level i) 0 ≡ get_or m.ram (level i) 0 = rw z at (kept i 0 l h (omega arith)) in
    rw (first, kept i 1 l h (omega arith), kept i 2 l h (omega arith), kept i 3 l h (omega arith))
