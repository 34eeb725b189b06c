-- A table of texts that are lent.
use mathlib.Core.Path.{◌≡◌, refl}
use mathlib.Core.List.{List, [], ◌∷◌}
use Prim.Native.Nat.{ℕ, zero, suc}
use lib.ListN.{get_or}
use Rattle.std.specs.Borrow.{Bor}
use Rattle.std.specs.Prelude.{map}

abbrev pub lent : Bor (List ℕ) → List ℕ
lent text = text.now

pub lent_at : (table : List (Bor (List ℕ))) (i : ℕ) (d : Bor (List ℕ)) → (get_or table i d).now ≡ get_or (map lent table) i d.now
lent_at [] i d = refl
lent_at (text ∷ table) zero d = refl
lent_at (text ∷ table) (suc i) d = lent_at table i d
