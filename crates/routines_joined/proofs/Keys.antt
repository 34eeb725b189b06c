-- Keys, and the search for the lowest.
use Rattle.std.proofs.Common.{◌≡◌, ℕ, ◌+◌, ◌-◌, ◌*◌, ◌/◌, ◌%◌, ◌<◌, ◌≤◌, not, ◌⊎◌, List, length, Option, None, Some, get_or, sym, refl, ◌∙◌, inl, inr, arith, le-ltb, lt-ltb}
use native.Mathlib.Decide.{ℕ_discrete, dec_lt}
use Rattle.graph_search.specs.Marks.{OnQ, Places}
use Rattle.routines_numbered.specs.Packed.{name_in}
use Rattle.routines_joined.specs.Words.{Laid, key_at, LowerKey, LowestKey}
use Rattle.routines_joined.specs.Suspects.{Better, Suspect}

pub key_entry : (x : List ℕ) (y : ℕ) → y < 2048 → key_at x y ≡ y
unfolding key_at
key_entry x y h = rw (lt-ltb y 2048 h) refl

pub key_place : (x : List ℕ) (y : ℕ) → 2048 ≤ y → key_at x y ≡ 2048 + (2 * name_in x ((y - 2048) / 2) + (y - 2048) % 2)
unfolding key_at
key_place x y h = rw (le-ltb y 2048 h) refl

pub key_lt : (x : List ℕ) (y : ℕ) → key_at x y < 34816
unfolding name_in
key_lt x y = go (dec_lt y 2048)
  where
    go : Dec (y < 2048) → key_at x y < 34816
    go (yes h) = omega (arith, key_entry x y h, h)
    go (no h) = omega (arith, key_place x y (omega arith))

-- no two nodes have one key
pub key_once : {x m : List ℕ} {n : ℕ} → Laid x m n → (y z : ℕ) → y < 2048 + 2 * n → z < 2048 + 2 * n → key_at x y ≡ key_at x z → y ≡ z
unfolding name_in
key_once {x} laid y z h l e = go (dec_lt y 2048) (dec_lt z 2048)
  where
    go : Dec (y < 2048) → Dec (z < 2048) → y ≡ z
    go (yes a) (yes b) = omega (arith, e, key_entry x y a, key_entry x z b)
    go (yes a) (no b) = absurd (omega (arith, a, e, key_entry x y a, key_place x z (omega arith)))
    go (no a) (yes b) = absurd (omega (arith, b, e, key_place x y (omega arith), key_entry x z b))
    go (no a) (no b) =
        let i = key_place x y (omega arith) in
        let j = key_place x z (omega arith) in
        let s = laid.once ((y - 2048) / 2) ((z - 2048) / 2) (omega (arith, h, a)) (omega (arith, l, b)) (omega (arith, e, i, j)) in
        omega (arith, e, i, j, s, a, b)

pub none_some : {y : ℕ} → ◌≡◌ {A = Option ℕ} None (Some y) → ⊥
none_some e = cc

pub some_same : {y z : ℕ} → ◌≡◌ {A = Option ℕ} (Some y) (Some z) → y ≡ z
some_same e = cc

later : (q : List ℕ) {count y : ℕ} → OnQ q count y → OnQ q (count + 1) y
later q (i, h, e) = (i, omega (arith, h), e)

module _ {x : List ℕ} {P : ℕ → Type 0} {q : List ℕ} where
  pub lowest_none : LowestKey x P q 0 None
  lowest_none = record { found = λ k e. absurd (none_some e); least = λ i h p. absurd (omega (arith, h)) }

  -- one node more
  pub lowest-more : {count : ℕ} {low r : Option ℕ} → LowestKey x P q count low → LowerKey x P low (get_or q count 0) r → LowestKey x P q (count + 1) r
  lowest-more {count} {low} {r} a b = record { found = λ k e. found k (b.found k e); least = λ i h p. least i h p (ℕ_discrete i count) }
    where
      found : (k : ℕ) → (low ≡ Some k) ⊎ ((key_at x (get_or q count 0) ≡ k) × P (get_or q count 0)) → (y : ℕ) × OnQ q (count + 1) y × (key_at x y ≡ k) × P y
      found k (inl e) = let c = a.found k e in (c.0, later q c.1, c.2, c.3)
      found k (inr c) = (get_or q count 0, (count, omega arith, refl), c.0, c.1)

      least : (i : ℕ) → i < count + 1 → P (get_or q i 0) → Dec (i ≡ count) → (k : ℕ) × (r ≡ Some k) × (k ≤ key_at x (get_or q i 0))
      least i h p (yes e) = rw e (b.least (rw e at p))
      least i h p (no e) =
          let c = a.least i (omega (arith, h, e)) p in
          let d = b.keeps c.0 c.1 in
          (d.0, d.1, omega (arith, c.2, d.2))

  pub suspect-none : {floor : ℕ} → Suspect x P q 0 floor None
  suspect-none = record { found = λ z e. absurd (none_some e); least = λ i h f p. absurd (omega (arith, h)) }

  pub suspect-more : {count floor : ℕ} {best r : Option ℕ} → Suspect x P q count floor best → Better x P floor best (get_or q count 0) r → Suspect x P q (count + 1) floor r
  suspect-more {count} {floor} {best} {r} a b = record { found = λ z e. found z (b.either z e); least = λ i h f p. least i h f p (ℕ_discrete i count) }
    where
      found : (z : ℕ) → (best ≡ Some z) ⊎ ((z ≡ get_or q count 0) × (floor ≤ key_at x (get_or q count 0))) → OnQ q (count + 1) z × (floor ≤ key_at x z)
      found z (inl e) = let c = a.found z e in (later q c.0, c.1)
      found z (inr (e, f)) = ((count, omega arith, sym e), rw e f)

      least : (i : ℕ) → i < count + 1 → floor ≤ key_at x (get_or q i 0) → P (get_or q i 0) → Dec (i ≡ count) → (z : ℕ) × (r ≡ Some z) × (key_at x z ≤ key_at x (get_or q i 0))
      least i h f p (yes e) = rw e (b.least (rw e at f) (rw e at p))
      least i h f p (no e) =
          let c = a.least i (omega (arith, h, e)) f p in
          let d = b.keeps c.0 c.1 in
          (d.0, d.1, omega (arith, c.2, d.2))

  -- the lowest that may have P has it, or does not and is passed; or none is left
  module _ {count floor : ℕ} (above : (i : ℕ) → i < count → P (get_or q i 0) → floor ≤ key_at x (get_or q i 0)) where
    -- one that has P has no lower key than the suspect
    over : {r : ℕ} → Suspect x P q count floor (Some r) → (i : ℕ) → i < count → P (get_or q i 0) → key_at x r ≤ key_at x (get_or q i 0)
    over {r} a i h p =
        let c = a.least i h (above i h p) p in
        let e : r ≡ c.0 = some_same c.1 in
        rw (← e) at c.2

    pub loop-here : {r s : ℕ} → Suspect x P q count floor (Some r) → s ≡ key_at x r → P r → LowestKey x P q count (Some s)
    loop-here {r} {s} a e p = record { found = λ k i. (r, (a.found r refl).0, sym e ∙ some_same i, p); least = λ i h z. (s, refl, omega (arith, e, over a i h z)) }

    pub loop-none : Suspect x P q count floor None → LowestKey x P q count None
    loop-none a = record { found = λ k e. absurd (none_some e); least = λ i h z. absurd (none_some (a.least i h (above i h z) z).1) }

    pub loop-passed : {r : ℕ} → Suspect x P q count floor (Some r) → (P r → ⊥) → ((i : ℕ) → i < count → key_at x (get_or q i 0) ≡ key_at x r → get_or q i 0 ≡ r)
        → (i : ℕ) → i < count → P (get_or q i 0) → key_at x r + 1 ≤ key_at x (get_or q i 0)
    loop-passed {r} a not once i h p = go (ℕ_discrete (key_at x (get_or q i 0)) (key_at x r))
      where
        go : Dec (key_at x (get_or q i 0) ≡ key_at x r) → key_at x r + 1 ≤ key_at x (get_or q i 0)
        go (yes e) = absurd (not (rw (once i h e) at p))
        go (no e) = omega (arith, e, over a i h p)

pub found_lt : {x q : List ℕ} {P : ℕ → Type 0} {n t floor y : ℕ} {best : Option ℕ} → Places q n → n ≤ 34816 → t ≤ length q → Suspect x P q t floor best → best ≡ Some y → y < 34816
found_lt {y = y} a small le s e =
    let f = (s.found y e).0 in
    omega (arith, f.2, a.below f.0 (omega (arith, f.1, le)))

pub on_lt : {q : List ℕ} {n y : ℕ} → Places q n → OnQ q (length q) y → y < n
on_lt a (i, h, e) = rw (← e) (a.below i h)

-- only an entry has so low a key
pub key_low : (x : List ℕ) (y k : ℕ) → key_at x y ≡ k → k < 2048 → y ≡ k
key_low x y k e h = go (dec_lt y 2048)
  where
    go : Dec (y < 2048) → y ≡ k
    go (yes l) = omega (arith, e, key_entry x y l)
    go (no l) = absurd (omega (arith, e, h, key_place x y (omega arith)))
