-- What a node of the joined graph is told to be.
use Rattle.std.specs.Prelude.{◌≡◌, ℕ}
use Rattle.graph.specs.Graph.{Graph, GoesOn, Ends, Excluded}
use Rattle.routines_joined.specs.declared.node.Node.{Node}

-- it goes on to these two
pub record Onward (g : Graph) (x next other : ℕ) : Type 0 where
  pub on : GoesOn g x
  pub next_is : next ≡ g.next x
  pub other_is : other ≡ g.other x

abbrev pub IsNode : Graph → ℕ → Node → Type 0
IsNode g x (Node.GoesOn next other) = Onward g x next other
IsNode g x Node.Ends = Ends g x
IsNode g x Node.Excluded = Excluded g x
