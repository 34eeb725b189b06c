-- A text's lines, by its first line.
use mathlib.Core.Path.{◌≡◌, refl}
use mathlib.Core.Bool.{Bool, true, false}
use mathlib.Core.List.{List, [], ◌∷◌, ◌++◌, append-nil}
use Prim.Native.Nat.{ℕ}
use Rattle.laws.proofs.Computed.{true→T}
use Rattle.text.specs.Script.{is_lf}
use Rattle.compare_lines.specs.Lines.{Line, whole, cut}
use Rattle.compare_lines.specs.Left.{plain}

pub plain_first : (c : ℕ) (w : List ℕ) (t : Bool) → is_lf c ≡ t → plain (c ∷ w) ≡ true → (is_lf c ≡ false) × (plain w ≡ true)
plain_first c w true e h = let f : false ≡ true = rw e at h in absurd (true→T f)
plain_first c w false e h = (e, rw e at h)

-- of a text without an LF both parts have none
pub plain_parts : (w v : List ℕ) → plain (w ++ v) ≡ true → (plain w ≡ true) × (plain v ≡ true)
plain_parts [] v h = (refl, h)
plain_parts (c ∷ w) v h =
    let p = plain_first c (w ++ v) (is_lf c) refl h in
    let q = plain_parts w v p.1 in
    (rw p.0 q.0, q.1)

pub cut_joined : (w text : List ℕ) (ended : Bool) (others : List Line) (x : List ℕ) → plain w ≡ true → cut x ≡ record { text = text; ended = ended } ∷ others → cut (w ++ x) ≡ record { text = w ++ text; ended = ended } ∷ others
cut_joined [] text ended others x p e = e
cut_joined (c ∷ w) text ended others x p e =
    let q = plain_first c w (is_lf c) refl p in rw (q.0, cut_joined w text ended others x q.1 e)

pub cut_whole : (w x : List ℕ) → plain w ≡ true → cut (w ++ (10 ∷ x)) ≡ whole w ∷ cut x
cut_whole w x p = rw (cut_joined w [] true (cut x) (10 ∷ x) p refl, append-nil w)

-- characters that no LF ends
pub cut_open : (c : ℕ) (w : List ℕ) → plain (c ∷ w) ≡ true → cut (c ∷ w) ≡ record { text = c ∷ w; ended = false } ∷ []
cut_open c [] p = rw (plain_first c [] (is_lf c) refl p).0
cut_open c (d ∷ w) p = let q = plain_first c (d ∷ w) (is_lf c) refl p in rw (q.0, cut_open d w q.1)

-- the first line begins with a character that is no LF
pub record Opens (c : ℕ) (r : List ℕ) : Type 0 where
  pub text : List ℕ
  pub ended : Bool
  pub others : List Line
  pub lines : cut (c ∷ r) ≡ record { text = c ∷ text; ended = ended } ∷ others

opens_by : (c : ℕ) (r : List ℕ) (ls : List Line) → is_lf c ≡ false → cut r ≡ ls → Opens c r
opens_by c r [] e q = record { text = []; ended = false; others = []; lines = rw (e, q) }
opens_by c r (l ∷ ls) e q = record { text = l.text; ended = l.ended; others = ls; lines = rw (e, q) }

pub opens : (c : ℕ) (r : List ℕ) → is_lf c ≡ false → Opens c r
opens c r e = opens_by c r (cut r) e refl
