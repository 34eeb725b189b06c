-- Words that say where their calls go on.
use Rattle.std.specs.Prelude.{◌≡◌, List, ℕ, ◌≤◌, ◌<◌, eqb, length, get_or}
use Rattle.laws.specs.Choice.{pick, both}
use Rattle.routines_numbered.specs.Packed.{place_in, other_in, into_in, kind_in, cost_in, packed}

-- the place after the call where SF is known is also next
abbrev pub known_next : ℕ → ℕ
known_next w = packed (place_in w) (other_in w) (other_in w) (into_in w) (kind_in w) (cost_in w)

-- so it is where the first place of the routine that is called has no mark
unfoldable pub chosen_word : List ℕ → ℕ → ℕ
chosen_word l w = pick (both (eqb (kind_in w) 3) (eqb (get_or l (into_in w) 0) 0)) (known_next w) w

-- the first t words are chosen, and the others as they were
pub record ChosenTo (x l : List ℕ) (t : ℕ) (x' : List ℕ) : Type 0 where
  pub len : length x' ≡ length x
  pub done : (v : ℕ) → v < t → get_or x' v 0 ≡ chosen_word l (get_or x v 0)
  pub rest : (v : ℕ) → t ≤ v → get_or x' v 0 ≡ get_or x v 0
