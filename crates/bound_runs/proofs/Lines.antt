-- Each branch of the sheet has S 1: computed over the lines once.
use mathlib.Core.Path.{◌≡◌, refl}
use mathlib.Core.Bool.{Bool, true}
use Prim.Native.Nat.{ℕ, ◌<◌}
use lib.Dec.{T}
use Rattle.laws.proofs.Computed.{at}
use Rattle.sheet.specs.Operation.{Operation}
use Rattle.sheet.specs.Table.{Mark, set, line_at}
use Rattle.bound_flow.specs.Flow.{is_one}

-- "Branches make it known": their S is 1
abbrev pub sets_branching : Mark → Operation → Bool
sets_branching s (Operation.work d a) = true
sets_branching s (Operation.branch t) = is_one s
sets_branching s (Operation.call e) = true
sets_branching s Operation.return = true
sets_branching s Operation.return_flag = true
sets_branching s (Operation.IL⟵IL-and-r e) = true
sets_branching s Operation.no_operation = true

pub line_branches : (k : ℕ) → k < 108 → T (sets_branching (line_at k).s (line_at k).operation)
unfolding line_at
line_branches k h = at (λ k. sets_branching (line_at k).s (line_at k).operation) 108 tt k h

pub one_is_set : (s : Mark) → T (is_one s) → s ≡ set
one_is_set Mark.kept t = absurd t
one_is_set Mark.carry t = absurd t
one_is_set Mark.not_carry t = absurd t
one_is_set Mark.is_zero t = absurd t
one_is_set Mark.not_zero t = absurd t
one_is_set Mark.clear t = absurd t
one_is_set Mark.set t = refl
one_is_set Mark.by_operation t = absurd t
