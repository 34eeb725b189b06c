-- Laws of the loops over the counts.
use mathlib.Core.Path.{◌≡◌, refl, sym, ap, ◌∙◌}
use mathlib.Core.Bool.{Bool, true, false}
use mathlib.Core.List.{List, ◌∷◌}
use Prim.Native.Nat.{ℕ, suc, ◌+◌, ◌*◌, ◌/◌, ◌%◌, ◌≤◌, ◌<◌}
use native.Mathlib.Omega.{arith}
use native.Mathlib.Nat.{mul_assoc, mul-add, mul-one, le-mul_of_pos_right, mul-le-mul, mul-le-mul_left, mul-zero, mod-lt}
use native.Mathlib.Numerals.{add-one}
use native.Mathlib.Decide.{dec_le}
use lib.Dec.{ltb}
use borrow.Author.Tests.{lt-ltb, le-ltb, eq-eqb, ne_eqb}
use lib.ListN.{length, get_or, drop}
use lib.Seq.{drop-cons, drop-length}
use Rattle.laws.specs.Choice.{pick, both}
use Rattle.counts.specs.Counts.{Count}
use Rattle.counts.specs.Radix.{weighs_first, size, first_of, rest_of, stepped, fits_in, moved}
use Rattle.counts.proofs.Radix.{size_pos}
use Rattle.routines_counted.specs.Counting.{count_of, counts_of, Times, Sizes, Moves}

-- what is left of the counts from the i-th on
abbrev pub rest : List ℕ → ℕ → List Count
rest l i = counts_of (drop i l)

-- s numbers are had of the counts before the i-th: they are all, with those of the rest
pub record SizesTo (l : List ℕ) (mask i m s : ℕ) : Type 0 where
  pub within : s ≤ 32768 → s * size (rest l i) m ≡ size (counts_of l) mask
  pub over : 32768 < s → 32768 < size (counts_of l) mask

size_cons : (c : Count) (C : List Count) (m : ℕ) → size (c ∷ C) m ≡ pick (weighs_first m) (suc c.most) 1 * size C (m / 2)
unfolding size
size_cons c C m = go (weighs_first m)
  where
    go : (b : Bool) → pick b (suc c.most * size C (m / 2)) (size C (m / 2)) ≡ pick b (suc c.most) 1 * size C (m / 2)
    go true = refl
    go false = omega arith

pub sizes_none : (l : List ℕ) (mask : ℕ) → SizesTo l mask 0 mask 1
sizes_none l mask = record { within = λ h. omega arith; over = λ h. absurd (omega (arith, h)) }

pub sizes_more : (l : List ℕ) (mask i m s r : ℕ) → i < length l → SizesTo l mask i m s → Times s (get_or l i 0) m r → SizesTo l mask (i + 1) (m / 2) r
sizes_more l mask i m s r h a t = rw (add-one i) (record { within = within (dec_le s 32768); over = over (dec_le s 32768) })
  where
    f : ℕ
    f = pick (weighs_first m) (suc (count_of (get_or l i 0)).most) 1

    split : size (rest l i) m ≡ f * size (rest l (suc i)) (m / 2)
    split = rw (drop-cons l i 0 h) (size_cons (count_of (get_or l i 0)) (rest l (suc i)) m)

    all : s ≤ 32768 → r * size (rest l (suc i)) (m / 2) ≡ size (counts_of l) mask
    all k = ap (λ (x : ℕ). x * size (rest l (suc i)) (m / 2)) (t.within k) ∙ mul_assoc s f (size (rest l (suc i)) (m / 2)) ∙ ap (λ (x : ℕ). s * x) (sym split) ∙ a.within k

    within : Dec (s ≤ 32768) → r ≤ 32768 → r * size (rest l (suc i)) (m / 2) ≡ size (counts_of l) mask
    within (yes k) g = all k
    within (no k) g = absurd (omega (arith, k, g, t.over (omega (arith, k))))

    over : Dec (s ≤ 32768) → 32768 < r → 32768 < size (counts_of l) mask
    over (yes k) g = omega (arith, all k, g, le-mul_of_pos_right r (size_pos (rest l (suc i)) (m / 2)))
    over (no k) g = a.over (omega (arith, k))

pub sizes_end : (l : List ℕ) (mask i m s : ℕ) → i ≡ length l → SizesTo l mask i m s → Sizes (counts_of l) mask s
unfolding size
sizes_end l mask i m s e a = record { within = λ h. omega (arith, last, a.within h); over = a.over }
  where
    last : s * size (rest l i) m ≡ s
    last = rw (e, drop-length l) (mul-one s)

-- a count that weighs, or does not, by the lowest bit of the mask
pub odd_weighs : (m : ℕ) → (m % 2 ≡ 0 → ⊥) → weighs_first m ≡ true
odd_weighs m n = eq-eqb (m % 2) 1 (omega (arith, n))

pub even_not : (m : ℕ) → m % 2 ≡ 0 → weighs_first m ≡ false
even_not m e = ne_eqb (m % 2) 1 (λ z. omega (arith, e, z))

pub times_over : (s count mask : ℕ) → 32768 < s → Times s count mask s
times_over s count mask h = record { over = λ z. refl; within = λ z. absurd (omega (arith, h, z)) }

pub times_not : (s count mask : ℕ) → mask % 2 ≡ 0 → Times s count mask s
times_not s count mask e = record { over = λ z. refl; within = λ z. rw (even_not mask e) (sym (mul-one s)) }

pub times_so : (s count mask r : ℕ) → s ≤ 32768 → (mask % 2 ≡ 0 → ⊥) → r ≡ s * (count / 65536 + 1) → Times s count mask r
times_so s count mask r h n e = record { over = λ z. absurd (omega (arith, h, z)); within = λ z. rw (odd_weighs mask n) (e ∙ ap (λ (x : ℕ). s * x) (omega arith)) }

pub product_fits : (s count : ℕ) → s ≤ 32768 → count < 4294967296 → s * (count / 65536 + 1) < 4294967296
product_fits s count h k = let f : count / 65536 + 1 ≤ 65536 = omega (arith, k) in omega (arith, mul-le-mul h f)

-- r and what the counts from the i-th on give are what all give; the step fits all where it fits these
pub record MovesTo (l : List ℕ) (mask there a d i m t left r scale : ℕ) : Type 0 where
  pub is : r + scale * moved (rest l i) m t a left ≡ moved (counts_of l) mask there a d
  pub fits : fits_in (rest l i) m a left ≡ fits_in (counts_of l) mask a d
  pub below : r < scale
  pub all : scale * size (rest l i) t ≡ size (counts_of l) there

pub moves_none : (l : List ℕ) (mask there a d : ℕ) → MovesTo l mask there a d 0 mask there d 0 1
moves_none l mask there a d = record { is = omega arith; fits = refl; below = omega arith; all = omega arith }

-- the scale is within what all have
pub scale_le : (l : List ℕ) (mask there a d i m t left r scale : ℕ) → size (counts_of l) there ≤ 32768 → MovesTo l mask there a d i m t left r scale → scale ≤ 32768
scale_le l mask there a d i m t left r scale h x = omega (arith, x.all, h, le-mul_of_pos_right scale (size_pos (rest l i) t))

module _ (c : Count) (C : List Count) (m t a left : ℕ) where
  -- the first count's number after the step
  abbrev n : ℕ
  n = stepped c a (first_of c m left)

  moved-cons : moved (c ∷ C) m t a left ≡ pick (weighs_first t) (n + suc c.most * moved C (m / 2) (t / 2) a (rest_of c m left)) (moved C (m / 2) (t / 2) a (rest_of c m left))
  unfolding moved
  moved-cons = refl

  fits-cons : fits_in (c ∷ C) m a left ≡ both (ltb n (suc c.most)) (fits_in C (m / 2) a (rest_of c m left))
  unfolding fits_in
  fits-cons = refl

-- a digit more
digit_more : (b : Bool) (r scale k n M : ℕ) → r + scale * pick b (n + suc k * M) M ≡ (r + pick b (scale * n) 0) + (scale * pick b (suc k) 1) * M
digit_more true r scale k n M = omega (arith, mul-add scale n (suc k * M), mul_assoc scale (suc k) M)
digit_more false r scale k n M = omega (arith, mul-one scale, ap (λ (x : ℕ). x * M) (mul-one scale))

digit_below : (b : Bool) (r scale k n : ℕ) → r < scale → n ≤ k → r + pick b (scale * n) 0 < scale * pick b (suc k) 1
digit_below true r scale k n h l =
    let x : scale * (n + 1) ≤ scale * suc k = mul-le-mul_left scale (omega (arith, l)) in
    omega (arith, h, x, mul-add scale n 1, mul-one scale)
digit_below false r scale k n h l = omega (arith, h, mul-one scale)

-- the numbers after the i-th count, where its step fits
pub moves_more : (l : List ℕ) (mask there a d i m t left r scale n r' scale' left' : ℕ) → i < length l → MovesTo l mask there a d i m t left r scale → scale ≤ 32768
    → n ≡ stepped (count_of (get_or l i 0)) a (first_of (count_of (get_or l i 0)) m left) → n ≤ get_or l i 0 / 65536 → r' ≡ r + pick (weighs_first t) (scale * n) 0 → Times scale (get_or l i 0) t scale'
    → left' ≡ rest_of (count_of (get_or l i 0)) m left → MovesTo l mask there a d (i + 1) (m / 2) (t / 2) left' r' scale'
moves_more l mask there a d i m t left r scale n r' scale' left' h x few en fits er es el = rw (add-one i) (record { is = is; fits = still; below = below; all = all })
  where
    c : Count
    c = count_of (get_or l i 0)

    C : List Count
    C = rest l (suc i)

    M : ℕ
    M = moved C (m / 2) (t / 2) a left'

    es' : scale' ≡ scale * pick (weighs_first t) (suc c.most) 1
    es' = es.within few

    parts : moved (rest l i) m t a left ≡ pick (weighs_first t) (n + suc c.most * M) M
    parts = rw (drop-cons l i 0 h, en, el) (moved-cons c C m t a left)

    is : r' + scale' * M ≡ moved (counts_of l) mask there a d
    is = rw (er, es') (sym (digit_more (weighs_first t) r scale c.most n M) ∙ ap (λ (y : ℕ). r + scale * y) (sym parts) ∙ x.is)

    still : fits_in C (m / 2) a left' ≡ fits_in (counts_of l) mask a d
    still =
        let e : fits_in (rest l i) m a left ≡ both (ltb n (suc c.most)) (fits_in C (m / 2) a left') = rw (drop-cons l i 0 h, en, el) (fits-cons c C m t a left) in
        let one : both (ltb n (suc c.most)) (fits_in C (m / 2) a left') ≡ fits_in C (m / 2) a left' = rw (lt-ltb n (suc c.most) (omega (arith, fits))) refl in
        sym one ∙ sym e ∙ x.fits

    below : r' < scale'
    below = rw (er, es') (digit_below (weighs_first t) r scale c.most n x.below fits)

    all : scale' * size C (t / 2) ≡ size (counts_of l) there
    all =
        let split : size (rest l i) t ≡ pick (weighs_first t) (suc c.most) 1 * size C (t / 2) = rw (drop-cons l i 0 h) (size_cons c C t) in
        rw es' (mul_assoc scale (pick (weighs_first t) (suc c.most) 1) (size C (t / 2)) ∙ ap (λ (y : ℕ). scale * y) (sym split) ∙ x.all)

-- a count would be exceeded
pub moves_not : (l : List ℕ) (mask there a d i m t left r scale n : ℕ) → i < length l → MovesTo l mask there a d i m t left r scale → n ≡ stepped (count_of (get_or l i 0)) a (first_of (count_of (get_or l i 0)) m left)
    → get_or l i 0 / 65536 < n → Moves (counts_of l) mask there a d 65535
moves_not l mask there a d i m t left r scale n h x en over = record { fits = λ z. absurd (omega (arith, z)); exceeds = λ z. sym x.fits ∙ no-fit }
  where
    no-fit : fits_in (rest l i) m a left ≡ false
    no-fit = rw (drop-cons l i 0 h) (fits-cons (count_of (get_or l i 0)) (rest l (suc i)) m t a left ∙ rw (← en, le-ltb n (suc (count_of (get_or l i 0)).most) (omega (arith, over))) refl)

pub moves_end : (l : List ℕ) (mask there a d i m t left r scale : ℕ) → i ≡ length l → size (counts_of l) there ≤ 32768 → MovesTo l mask there a d i m t left r scale → Moves (counts_of l) mask there a d r
unfolding moved fits_in size
moves_end l mask there a d i m t left r scale e few x =
    record { fits = λ z. (sym x.fits ∙ rw (e, drop-length l) refl, sym none ∙ x.is, omega (arith, x.below, last, x.all)); exceeds = λ z. absurd (omega (arith, z, x.below, scale_le l mask there a d i m t left r scale few x)) }
  where
    last : scale * size (rest l i) t ≡ scale
    last = rw (e, drop-length l) (mul-one scale)

    none : r + scale * moved (rest l i) m t a left ≡ r
    none = rw (e, drop-length l) (omega (arith, mul-zero scale))

pub first_none : (count mask d : ℕ) → mask % 2 ≡ 0 → 0 ≡ first_of (count_of count) mask d
first_none count mask d e = rw (even_not mask e) refl

pub first_some : (count mask d : ℕ) → (mask % 2 ≡ 0 → ⊥) → d % (count / 65536 + 1) ≡ first_of (count_of count) mask d
first_some count mask d n = rw (odd_weighs mask n, add-one (count / 65536)) refl

pub rest_none : (count mask d : ℕ) → mask % 2 ≡ 0 → d ≡ rest_of (count_of count) mask d
rest_none count mask d e = rw (even_not mask e) refl

pub rest_some : (count mask d : ℕ) → (mask % 2 ≡ 0 → ⊥) → d / (count / 65536 + 1) ≡ rest_of (count_of count) mask d
rest_some count mask d n = rw (odd_weighs mask n, add-one (count / 65536)) refl

-- a count's number is not over it
pub first_le : (count mask d : ℕ) → first_of (count_of count) mask d ≤ count / 65536
first_le count mask d = go (weighs_first mask)
  where
    go : (b : Bool) → pick b (d % suc (count / 65536)) 0 ≤ count / 65536
    go true = omega (arith, mod-lt d {m = suc (count / 65536)} (omega arith))
    go false = omega arith

pub step_there : (count a n : ℕ) → count % 65536 ≡ a → n + 1 ≡ stepped (count_of count) a n
step_there count a n e = rw (eq-eqb (count % 65536) a e) (omega arith)

pub step_elsewhere : (count a n : ℕ) → (count % 65536 ≡ a → ⊥) → n ≡ stepped (count_of count) a n
step_elsewhere count a n e = rw (ne_eqb (count % 65536) a e) refl

pub digit_none : (r scale mask n : ℕ) → mask % 2 ≡ 0 → r ≡ r + pick (weighs_first mask) (scale * n) 0
digit_none r scale mask n e = rw (even_not mask e) (omega arith)

pub digit_some : (r scale mask n : ℕ) → (mask % 2 ≡ 0 → ⊥) → r + scale * n ≡ r + pick (weighs_first mask) (scale * n) 0
digit_some r scale mask n e = rw (odd_weighs mask e) refl

pub digit_fits : (scale n : ℕ) → scale ≤ 32768 → n < 65536 → scale * n ≤ 2147450880
digit_fits scale n h k = let f : n ≤ 65535 = omega (arith, k) in omega (arith, mul-le-mul h f)

pub size_exact : (C : List Count) (mask r : ℕ) → size C mask ≤ 32768 → Sizes C mask r → r ≡ size C mask
size_exact C mask r h a = go (dec_le r 32768)
  where
    go : Dec (r ≤ 32768) → r ≡ size C mask
    go (yes k) = a.within k
    go (no k) = absurd (omega (arith, h, a.over (omega (arith, k))))
