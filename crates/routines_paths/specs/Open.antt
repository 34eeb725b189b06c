-- Where the open calls go on, and whether a way is over. A number of kind 1 goes on, one of kind 2 ends its routine, one of kind 3 calls: next is where the routine starts, other where the call goes on.
use Rattle.std.specs.Prelude.{◌≡◌, ◌⊎◌, Bool, true, false, List, [], ◌∷◌, ℕ, zero, suc, ◌<◌, get_or}

-- the latest first: the stack's entries below top
unfoldable pub open_of : List ℕ → ℕ → List ℕ
open_of stack zero = []
open_of stack (suc t) = get_or stack t 0 ∷ open_of stack t

-- a way is not over where the kind is not 2 or calls are open
pub record More (kind top : ℕ) (r : Bool) : Type 0 where
  pub goes_on : r ≡ true → (kind ≡ 2 → ⊥) ⊎ (0 < top)
  pub over : r ≡ false → (kind ≡ 2) × (top ≡ 0)

-- a number goes on, calls, or ends a called routine
pub record Goes (kind top : ℕ) : Type 0 where
  pub one : (kind ≡ 1) ⊎ ((kind ≡ 3) ⊎ ((kind ≡ 2) × (0 < top)))
