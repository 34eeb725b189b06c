-- The routines joined in one graph: a call leads into the routine, and also on to the place after it. First come the entries, below E; then each place twice, in a called routine and in the outer one.
use Rattle.std.specs.Prelude.{Bool, ℕ, ◌+◌, ◌-◌, ◌*◌, ◌/◌, ◌%◌, eqb, ltb}
use Rattle.laws.specs.Choice.{pick, either}
use Rattle.graph.specs.Graph.{Graph}
use Rattle.routines.specs.Calling.{Flow, Routine, outer, called, after}

-- the number of a place in a routine
abbrev pub code : ℕ → Routine → ℕ → ℕ
code E outer v = E + (2 * v + 1)
code E (called e) v = E + (2 * v + 0)

abbrev pub place_of : ℕ → ℕ → ℕ
place_of E x = (x - E) / 2

-- the number of w in the routine of x
abbrev pub beside : ℕ → ℕ → ℕ → ℕ
beside E x w = E + (2 * w + (x - E) % 2)

-- the kind that ends the routine of x
abbrev pub end_at : ℕ → ℕ → ℕ
end_at E x = pick (eqb ((x - E) % 2) 1) 2 4

unfoldable pub joined : Flow → (ℕ → Bool) → ℕ → Graph
joined f K E = record {
  kind = λ x. pick (ltb x E) 1 (pick (either (eqb (f.kind (place_of E x)) 1) (eqb (f.kind (place_of E x)) 3)) 1 (pick (eqb (f.kind (place_of E x)) (end_at E x)) 2 0));
  next = λ x. pick (ltb x E) (E + (2 * f.from x + 0)) (pick (eqb (f.kind (place_of E x)) 3) (f.entry (place_of E x)) (beside E x (f.next (place_of E x))));
  other = λ x. pick (ltb x E) (E + (2 * f.from x + 0)) (beside E x (pick (eqb (f.kind (place_of E x)) 3) (after f K (place_of E x)) (f.other (place_of E x))));
}
