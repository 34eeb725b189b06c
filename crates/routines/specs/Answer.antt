-- Request Q-9: what is answered, in the table's order 24, 21, 22, 25, 23, and what becomes of the two path buffers.
use Rattle.std.specs.Prelude.{◌≡◌, Bool, List, [], ◌∷◌, ◌++◌, ℕ, ◌*◌, ◌/◌, ◌%◌, ◌≤◌, ◌<◌, length, drop}
use Rattle.graph.specs.Graph.{Least, sum}
use Rattle.routines.specs.Calling.{Flow, Knows, Recurs, IsBad, IsLoop, HandlerPath, depth, FirstOf}

-- the lowest address of a place with P
abbrev pub LowestAddress : (ℕ → ℕ) → (ℕ → Type 0) → ℕ → Type 0
LowestAddress address P = Least (λ a. (v : ℕ) × P v × (address v ≡ a))

-- "The path is its addresses, two bytes each, low first"
unfoldable pub bytes_of : (ℕ → ℕ) → List ℕ → List ℕ
bytes_of address [] = []
bytes_of address (v ∷ l) = address v % 256 ∷ address v / 256 % 256 ∷ bytes_of address l

-- what comes back
pub data Found : Type 0 where
  recursion excluded repetition short : ℕ → Found
  too_large : Found
  bounds : ℕ → ℕ → Found

-- nothing recurs, and K says what is known after calls
pub record Judged (f : Flow) (K : ℕ → Bool) : Type 0 where
  pub no_recursion : (e : ℕ) → Recurs f e → ⊥
  pub knows : Knows f K

-- nothing is refused on the flow; N is the largest sum of cycles and d the greatest depth of calls, with "a path for each of N and depth"
pub record HasBound (f : Flow) (cycles : ℕ → ℕ) (K : ℕ → Bool) (N d : ℕ) (path deep : List ℕ) : Type 0 where
  pub no_bad : (v : ℕ) → IsBad f K v → ⊥
  pub no_loop : (v : ℕ) → IsLoop f K v → ⊥
  pub longest : FirstOf f (HandlerPath f K) (sum cycles) path
  pub sum : N ≡ sum cycles path
  pub deepest : FirstOf f (HandlerPath f K) (depth f) deep
  pub depth : d ≡ depth f deep

-- the buffers p and q became p' and q': they are as they were
pub record Kept (p p' q q' : List ℕ) : Type 0 where
  pub first : p' ≡ p
  pub second : q' ≡ q

-- "25 N over 65,535, between 22 and 23"; "each path has its own buffer, and 23 gives the bytes needed for the first that is short, N's before depth's"
pub data PathAnswer (address : ℕ → ℕ) (p p' q q' : List ℕ) (N d : ℕ) (path deep : List ℕ) : Found → Type 0 where
  gives_25 : 65535 < N → Kept p p' q q' → PathAnswer address p p' q q' N d path deep too_large
  gives_23 : N ≤ 65535 → length p < 2 * length path → Kept p p' q q' → PathAnswer address p p' q q' N d path deep (short (2 * length path))
  gives_23_depth : N ≤ 65535 → 2 * length path ≤ length p → length q < 2 * length deep → Kept p p' q q' → PathAnswer address p p' q q' N d path deep (short (2 * length deep))
  gives_n : N ≤ 65535 → 2 * length path ≤ length p → 2 * length deep ≤ length q
      → p' ≡ bytes_of address path ++ drop (2 * length path) p → q' ≡ bytes_of address deep ++ drop (2 * length deep) q → PathAnswer address p p' q q' N d path deep (bounds N d)

-- "If an excluded place is reachable: 21. Else if a reachable place can be reached from itself ..: 22.", by K over all reachable routines
pub data FlowAnswer (f : Flow) (cycles address : ℕ → ℕ) (p p' q q' : List ℕ) (K : ℕ → Bool) : Found → Type 0 where
  gives_21 : {a : ℕ} → LowestAddress address (IsBad f K) a → Kept p p' q q' → FlowAnswer f cycles address p p' q q' K (excluded a)
  gives_22 : {a : ℕ} → ((v : ℕ) → IsBad f K v → ⊥) → LowestAddress address (IsLoop f K) a → Kept p p' q q' → FlowAnswer f cycles address p p' q q' K (repetition a)
  bounded : {N d : ℕ} {path deep : List ℕ} {x : Found} → HasBound f cycles K N d path deep → PathAnswer address p p' q q' N d path deep x → FlowAnswer f cycles address p p' q q' K x

-- "24 recursion, lowest entry address, before 21"
pub data Answer (f : Flow) (cycles address : ℕ → ℕ) (p p' q q' : List ℕ) : Found → Type 0 where
  gives_24 : {e : ℕ} → Least (Recurs f) e → Kept p p' q q' → Answer f cycles address p p' q q' (recursion e)
  judged : {K : ℕ → Bool} {x : Found} → Judged f K → FlowAnswer f cycles address p p' q q' K x → Answer f cycles address p p' q q' x
