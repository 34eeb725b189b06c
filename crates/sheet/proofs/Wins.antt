-- `winner` finds the row that fits with most bits fixed, and there is only one.
use mathlib.Core.Path.{◌≡◌, refl, sym, ap, ◌∙◌}
use mathlib.Core.List.{List, [], ◌∷◌}
use Prim.Native.Nat.{ℕ, zero, suc, ◌+◌, ◌<◌, ◌≤◌}
use native.Mathlib.Decide.{dec_lt, ℕ_discrete}
use native.Mathlib.Nat.{add-zero, add-suc, suc-add}
use native.Mathlib.Numerals.{one-add}
use native.Mathlib.Omega.{arith}
use lib.Dec.{T}
use borrow.Author.Tests.{lt-ltb, le-ltb}
use Rattle.laws.proofs.Computed.{true→T, T→true}
use Rattle.sheet.specs.Table.{Line, lines, line_at, line_in}
use Rattle.sheet.specs.Reading.{bits_fixed_if_fits, Winner, over, winner, row_number}
use Rattle.sheet.specs.Wins.{fits_one, Fits, Wins, RowWins, NoTie}
use Rattle.sheet.proofs.Winning.{At, here, there, line_at_lem}
use Rattle.sheet.proofs.Apart.{apart, rest-apart, claims, fixes_at, no_tie_at, all_apart}

module _ (ds : List ℕ) where
  abbrev bits : Line → ℕ
  bits l = bits_fixed_if_fits l.codes ds

  -- the winner fixes as many bits as any
  over-most : (n b : ℕ) (w : Winner) → Dec (w.bits < b) → (b ≤ (over n b w).bits) × (w.bits ≤ (over n b w).bits)
  over-most n b w (yes h) = rw (lt-ltb w.bits b h) (omega arith, omega arith)
  over-most n b w (no h) = rw (le-ltb w.bits b (omega arith)) (omega arith, omega arith)

  winner-most : (ls : List Line) (n : ℕ) {j : ℕ} {l : Line} → At ls j l → bits l ≤ (winner ls n ds).bits
  winner-most [] n {j = j} {l = l} x' = elim x' [ ]
  winner-most (l ∷ ls) n here = (over-most n (bits l) (winner ls (suc n) ds) (dec_lt _ _)).0
  winner-most (l ∷ ls) n (there p) = omega (arith, (over-most n (bits l) (winner ls (suc n) ds) (dec_lt _ _)).1, winner-most ls (suc n) p)

  -- it is a row that fits, and every other fixes fewer; or no row fixes any
  data Best (ls : List Line) (n : ℕ) (w : Winner) : Type 0 where
    best : (j : ℕ) (l : Line) → At ls j l → w.row ≡ n + j → w.bits ≡ bits l → 0 < w.bits → ((k : ℕ) (m : Line) → At ls k m → (k ≡ j → ⊥) → bits m < w.bits) → Best ls n w
    nobody : w.row ≡ 0 → w.bits ≡ 0 → Best ls n w

  module _ (l : Line) (ls : List Line) (n : ℕ) (a : T (apart (l ∷ ls))) where
    -- where the first row wins
    after_first : (w : ℕ) → ((k : ℕ) (m : Line) → At ls k m → bits m ≤ w) → w < bits l → (k : ℕ) (m : Line) → At (l ∷ ls) k m → (k ≡ 0 → ⊥) → bits m < bits l
    after_first w most h k m here ne = absurd (ne refl)
    after_first w most h (suc k) m (there p) ne = omega (arith, most k m p)

    -- where another does: the first fixes no more, and not as many
    fewer : (j : ℕ) (m : Line) (w : ℕ) → At ls j m → w ≡ bits m → 0 < w → bits l ≤ w → Dec (bits l ≡ w) → bits l < w
    fewer j m w p e pos le (yes tie) =
        absurd (no_tie_at ds {l = l} {m = m} a here (there p) (λ z. omega arith) (claims l.codes ds (omega arith)) (claims m.codes ds (omega arith)) (tie ∙ e))
    fewer j m w p e pos le (no h) = omega arith

    with_first : (j : ℕ) (m : Line) (w : ℕ) → At ls j m → w ≡ bits m → 0 < w → bits l ≤ w → ((k : ℕ) (q : Line) → At ls k q → (k ≡ j → ⊥) → bits q < w) → (k : ℕ) (q : Line) → At (l ∷ ls) k q → (k ≡ suc j → ⊥) → bits q < w
    with_first j m w p e pos le others k q here ne = fewer j m w p e pos le (ℕ_discrete (bits l) w)
    with_first j m w p e pos le others (suc k) q (there r) ne = others k q r (λ z. ne (ap suc z))

    best-over : (w : Winner) → ((k : ℕ) (m : Line) → At ls k m → bits m ≤ w.bits) → Dec (w.bits < bits l) → Best ls (suc n) w → Best (l ∷ ls) n (over n (bits l) w)
    best-over w most (yes h) q = rw (lt-ltb w.bits (bits l) h) (best 0 l here (sym (add-zero n)) refl (omega arith) (after_first w.bits most h))
    best-over w most (no h) (best j m p r e pos others) =
        rw (le-ltb w.bits (bits l) (omega arith)) (best (suc j) m (there p) (r ∙ (suc-add n j ∙ sym (add-suc n j))) e pos (with_first j m w.bits p e pos (omega arith) others))
    best-over w most (no h) (nobody r e) = rw (le-ltb w.bits (bits l) (omega arith)) (nobody r e)

  winner-best : (ls : List Line) (n : ℕ) → T (apart ls) → Best ls n (winner ls n ds)
  winner-best [] n a = nobody refl refl
  winner-best (l ∷ ls) n a =
      best-over l ls n a (winner ls (suc n) ds) (λ k m p. winner-most ls (suc n) p) (dec_lt _ _) (winner-best ls (suc n) (rest-apart l ls a))

  -- a number whose row fits is that of a line
  place : (ls : List Line) (j : ℕ) → T (fits_one (line_in ls (suc j)).codes ds) → At ls j (line_in ls (suc j))
  place [] j t = absurd t
  place (l ∷ ls) zero t = here
  place (l ∷ ls) (suc j) t = there (place ls j t)

record Placed (ds : List ℕ) (k : ℕ) : Type 0 where
  index : ℕ
  number : k ≡ suc index
  found : At lines index (line_at k)

placed : (ds : List ℕ) (k : ℕ) → Fits k ds → Placed ds k
unfolding line_at
placed ds zero f = absurd (true→T f)
placed ds (suc j) f = record { index = j; number = refl; found = place ds lines j (true→T f) }

module _ (ds : List ℕ) (row : ℕ) where
  row-wins-by : (w : Winner) → row ≡ w.row → ((k : ℕ) (m : Line) → At lines k m → bits_fixed_if_fits m.codes ds ≤ w.bits) → Best ds lines 1 w → ((row ≡ 0 → ⊥) → Wins row ds) × (row ≡ 0 → (k : ℕ) → Fits k ds → ⊥)
  row-wins-by w is most (nobody r e) = (λ ne. absurd (ne (is ∙ r)), none)
    where
      none : row ≡ 0 → (k : ℕ) → Fits k ds → ⊥
      none z k f =
          let p = placed ds k f in
          omega (arith, fixes_at ds all_apart p.found (true→T f), most p.index (line_at k) p.found)
  row-wins-by w is most (best j l p r e pos others) = (λ ne. record { it_fits = fits-row; others = fewer-bits }, λ z. absurd (omega arith))
    where
      number : row ≡ suc j
      number = is ∙ (r ∙ one-add j)

      line-is : line_at row ≡ l
      line-is = ap line_at number ∙ line_at_lem p

      fits-row : Fits row ds
      fits-row = rw line-is (T→true (fits_one l.codes ds) (claims l.codes ds (omega arith)))

      fewer-bits : (k : ℕ) → Fits k ds → (k ≡ row → ⊥) → bits_fixed_if_fits (line_at k).codes ds < bits_fixed_if_fits (line_at row).codes ds
      fewer-bits k f ne =
          let q = placed ds k f in
          rw (line-is, ← e) (others q.index (line_at k) q.found (λ z. ne (q.number ∙ (ap suc z ∙ sym number))))

pub row_wins : (ds : List ℕ) → RowWins ds
unfolding row_number
row_wins ds =
    let w = winner lines 1 ds in
    let both_hold = row-wins-by ds w.row w refl (λ k m p. winner-most ds lines 1 p) (winner-best ds lines 1 all_apart) in
    record { wins = both_hold.0; none = both_hold.1 }

pub no_tie : NoTie
no_tie ds n k f g ne =
    let p = placed ds n f in
    let q = placed ds k g in
    no_tie_at ds all_apart p.found q.found (λ z. ne (p.number ∙ (ap suc z ∙ sym q.number))) (true→T f) (true→T g)
