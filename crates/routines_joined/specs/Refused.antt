-- What is answered of a numbered flow in which SF is unknown after every call, or which says where it is known: 24, 21 and 22.
use Rattle.std.specs.Prelude.{ℕ, List, Option, None, Some, Result, Ok, Err}
use Rattle.graph.specs.Graph.{Least}
use Rattle.graph_search.specs.Marks.{Listed}
use Rattle.graph_search.specs.Search.{Reached}
use Rattle.routines.specs.Calling.{Flow, unknown, Recurs, IsBad, IsLoop}
use Rattle.routines.specs.Answer.{LowestAddress}
use Rattle.routines_numbered.specs.Packed.{nodes_in}
use Rattle.routines_joined.specs.Words.{flow_at, joined_at}
use Rattle.routines_joined.specs.declared.Unsound.{Unsound}

abbrev pub NothingRecurs : Flow → Type 0
NothingRecurs f = (e : ℕ) → Recurs f e → ⊥

-- 24: the lowest entry that recurs, or that none does
abbrev pub Recursion : Flow → Option ℕ → Type 0
Recursion f (Some e) = Least (Recurs f) e
Recursion f None = NothingRecurs f

abbrev pub address_in : List ℕ → ℕ → ℕ
address_in x v = (nodes_in x v).address

-- 21: the lowest address of an excluded place
pub record IsExcluded (x m : List ℕ) (a : ℕ) : Type 0 where
  pub lowest : LowestAddress (address_in x) (IsBad (flow_at x m) unknown) a

-- 22: none is reached, and the lowest address of a place that is reached from itself
pub record IsRepeats (x m : List ℕ) (a : ℕ) : Type 0 where
  pub no_bad : (v : ℕ) → IsBad (flow_at x m) unknown v → ⊥
  pub lowest : LowestAddress (address_in x) (IsLoop (flow_at x m) unknown) a

-- q lists what is reached in the joined graph, count nodes; the start is node 2049
pub record Lists (x m q : List ℕ) (count : ℕ) : Type 0 where
  pub marks : List ℕ
  pub reached : Reached (joined_at x m) 2049 marks
  pub listed : Listed marks q count

-- neither is reached, and q lists what is
pub record IsSound (x m q : List ℕ) (count : ℕ) : Type 0 where
  pub no_bad : (v : ℕ) → IsBad (flow_at x m) unknown v → ⊥
  pub no_loop : (v : ℕ) → IsLoop (flow_at x m) unknown v → ⊥
  pub lists : Lists x m q count

unfoldable pub Judges : List ℕ → List ℕ → List ℕ → Result ℕ Unsound → Type 0
Judges x m q (Err (Unsound.Excluded a)) = IsExcluded x m a
Judges x m q (Err (Unsound.Repeats a)) = IsRepeats x m a
Judges x m q (Ok count) = IsSound x m q count
