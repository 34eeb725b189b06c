-- A handler's flow as words by number, as the bound asks for it, and what is answered of it. The handler's start has the number 0.
use Rattle.std.specs.Prelude.{◌≡◌, List, ℕ, ◌≤◌, ◌<◌, length, get_or, Option, None, Some, Result, Ok, Err}
use Rattle.graph.specs.Graph.{Graph, Least}
use Rattle.routines.specs.Calling.{unknown, Recurs}
use Rattle.routines.specs.Answer as answer
use Rattle.routines.specs.Answer.{FlowAnswer, Answer}
use Rattle.routines.specs.Shape.{Widens}
use Rattle.routines.specs.Losing.{Region, KnownAfter}
use Rattle.routines_numbered.specs.Packed.{nodes_in}
use Rattle.routines_joined.specs.Words.{flow_at, Laid}
use Rattle.routines_joined.specs.Refused.{NothingRecurs, address_in, Judges}
use Rattle.routines_joined.specs.declared.Unsound.{Unsound}
use Rattle.routines_known.specs.Choosing.{ChosenTo}
use Rattle.routines_known.specs.Marking as marking
use Rattle.routines_known.specs.Marking.{flow_on, AllLose}
use Rattle.routines_sums.specs.Dist.{Dist}
use Rattle.routines_sums.specs.Ways.{ways_in, costs_in, IdleTo}
use Rattle.routines_paths.specs.Paths.{Short, Written}
use Rattle.routines_bound.specs.declared.Greatest.{Greatest}
use Rattle.routines_bound.specs.declared.Unbounded.{Unbounded}

abbrev pub unbounded_of : Unsound → Unbounded
unbounded_of (Unsound.Excluded a) = Unbounded.Excluded a
unbounded_of (Unsound.Repeats a) = Unbounded.Repeats a

abbrev pub found_of : Result Greatest Unbounded → answer.Found
found_of (Ok g) = answer.bounds g.cycles g.depth
found_of (Err (Unbounded.Recursion e)) = answer.recursion e
found_of (Err (Unbounded.Excluded a)) = answer.excluded a
found_of (Err (Unbounded.Repeats a)) = answer.repetition a
found_of (Err Unbounded.TooLarge) = answer.too_large
found_of (Err (Unbounded.Short n)) = answer.short n

-- n words, of which each that is not excluded costs something; a call leads to the first place of the routine that it names
pub record Words (x m : List ℕ) (n : ℕ) : Type 0 where
  pub laid : Laid x m n
  pub pays : (v : ℕ) → v < n → 1 ≤ (nodes_in x v).kind → (nodes_in x v).kind ≤ 4 → 0 < (nodes_in x v).cost
  pub first : (v : ℕ) → v < n → (nodes_in x v).kind ≡ 3 → (flow_at x m).from ((flow_at x m).entry v) ≡ (nodes_in x v).into
  pub widens : Widens (flow_at x m)

-- the flow of a handler, of which no call is left out
pub record HandlerWords (x m : List ℕ) (n : ℕ) : Type 0 where
  pub words : Words x m n
  pub calls : (v : ℕ) → (nodes_in x v).kind ≡ 3 → v < n
  pub known_after : KnownAfter (flow_at x m)
  pub region : Region (flow_at x m) (λ v. v < n)

-- a flow in which nothing recurs and whose words say where SF is known after a call
pub record Settles (x m : List ℕ) (n : ℕ) : Type 0 where
  pub words : Words x m n
  pub none : NothingRecurs (flow_at x m)

abbrev pub NoCall : List ℕ → ℕ → Type 0
NoCall x n = (v : ℕ) → v < n → (nodes_in x v).kind ≡ 3 → ⊥

-- what is judged of it, and marks by which x' was chosen
pub record JudgedBy (x m : List ℕ) (r : Result ℕ Unsound) : Type 0 where
  pub q : List ℕ
  pub is : Judges x m q r

pub record ChosenBy (x : List ℕ) (n : ℕ) (x' : List ℕ) : Type 0 where
  pub l : List ℕ
  pub len : length l ≡ n
  pub all : AllLose (flow_on x) l
  pub idle : marking.IdleTo (flow_on x) l n
  pub chosen : ChosenTo x l n x'

-- the lowest entry that recurs; or none does: then x became x', which says where its calls go on, and what is answered by x' is answered
pub record Chosen (x m : List ℕ) (n : ℕ) (x' : List ℕ) : Type 0 where
  pub settles : Settles x' m n
  pub answers : (p p' q q' : List ℕ) (a : answer.Found) → FlowAnswer (flow_at x' m) (costs_in x') (address_in x') p p' q q' unknown a
      → Answer (flow_at x m) (costs_in x) (address_in x) p p' q q' a

abbrev pub CallsJudged : List ℕ → List ℕ → ℕ → List ℕ → Option ℕ → Type 0
CallsJudged x m n x' (Some e) = Least (Recurs (flow_at x m)) e
CallsJudged x m n x' None = Chosen x m n x'

-- what settled sums and depths come to: too much; a buffer that is short; or both paths, with what they spend and how many calls are open
pub data Comes (g : Graph) (address : ℕ → ℕ) (d dep : List ℕ) (p p' q q' : List ℕ) : Result Greatest Unbounded → Type 0 where
  too_large : get_or d 0 0 ≡ 0 → p' ≡ p → q' ≡ q → Comes g address d dep p p' q q' (Err Unbounded.TooLarge)
  short : {n : ℕ} → 0 < get_or d 0 0 → Short g d dep 0 p p' q q' n → Comes g address d dep p p' q q' (Err (Unbounded.Short n))
  bounds : {x : Greatest} → 0 < get_or d 0 0 → Written g address d dep 0 p p' q q' → x.cycles ≡ get_or d 0 0 → x.depth ≡ get_or dep 0 0 → Comes g address d dep p p' q q' (Ok x)

pub record Measured (x : List ℕ) (n : ℕ) (p p' q q' : List ℕ) (r : Result Greatest Unbounded) : Type 0 where
  pub d : List ℕ
  pub dep : List ℕ
  pub dist : Dist (ways_in x) (costs_in x) d dep
  pub idle : IdleTo (ways_in x) (costs_in x) d n
  pub comes : Comes (ways_in x) (address_in x) d dep p p' q q' r
