-- The two paths, each with a buffer: "each path has its own buffer, and 23 gives the bytes needed for the first that is short, N's before depth's".
use Rattle.std.specs.Prelude.{◌≡◌, List, ℕ, ◌*◌, ◌≤◌, ◌<◌, length, get_or, Result, Ok, Err}
use Rattle.graph.specs.Graph.{Graph}
use Rattle.routines_paths.specs.Way as way
use Rattle.routines_paths.specs.Deep as deep
use Rattle.routines_paths.specs.declared.TooShort.{TooShort}

-- the buffers p and q became p' and q': both ways are written; or nothing is, and r is the bytes needed for the first that is short
pub data Short (g : Graph) (d dep : List ℕ) (s : ℕ) (p p' q q' : List ℕ) (r : ℕ) : Type 0 where
  first_short : {n : ℕ} → way.LengthIs g d s n → r ≡ 2 * n → length p < r → p' ≡ p → q' ≡ q → Short g d dep s p p' q q' r
  second_short : {n k : ℕ} → way.LengthIs g d s n → 2 * n ≤ length p → deep.LengthIs g dep (get_or dep s 0) s 32768 k → r ≡ 2 * k → length q < r → p' ≡ p → q' ≡ q → Short g d dep s p p' q q' r

pub record Written (g : Graph) (address : ℕ → ℕ) (d dep : List ℕ) (s : ℕ) (p p' q q' : List ℕ) : Type 0 where
  pub first : way.Written g address d s p p'
  pub second : deep.Written g address dep (get_or dep s 0) s q q'

abbrev pub Paths : Graph → (ℕ → ℕ) → List ℕ → List ℕ → ℕ → List ℕ → List ℕ → List ℕ → List ℕ → Result Unit TooShort → Type 0
Paths g address d dep s p p' q q' (Ok x) = Written g address d dep s p p' q q'
Paths g address d dep s p p' q q' (Err r) = Short g d dep s p p' q q' r.bytes
