-- The rows of the data pointer, the stack pointer and the timers, and of the ROM by the data pointer.
use Rattle.std.specs.Prelude.{ℕ, List, [], ◌∷◌}

-- LDADPL, LDASP, LDADPH, LDADPM
abbrev pub load_pointer : List ℕ
load_pointer = 88 ∷ 91 ∷ 90 ∷ 89 ∷ []

-- LDATAL, LDATBH, LDATBM, LDATBL, LDATAH, LDATAM
abbrev pub load_timer : List ℕ
load_timer = 92 ∷ 97 ∷ 96 ∷ 95 ∷ 94 ∷ 93 ∷ []

-- STADPL, STASP, STADPH, STADPM
abbrev pub store_pointer : List ℕ
store_pointer = 98 ∷ 101 ∷ 100 ∷ 99 ∷ []

-- STATAL, STATBH, STATBM, STATBL, STATAH, STATAM
abbrev pub store_timer : List ℕ
store_timer = 102 ∷ 107 ∷ 106 ∷ 105 ∷ 104 ∷ 103 ∷ []
