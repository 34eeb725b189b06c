-- Where a script's first line ends, a character at a time; and a script by its first line.
use mathlib.Core.Path.{◌≡◌, refl, sym}
use mathlib.Core.Bool.{Bool, true, false}
use mathlib.Core.List.{List, [], ◌∷◌, ◌++◌}
use Prim.Native.Nat.{ℕ, suc, ◌+◌, ◌<◌, ◌≤◌}
use native.Mathlib.Nat.{not-suc-le-zero}
use native.Mathlib.Numerals.{add-one}
use native.Mathlib.Omega.{arith}
use borrow.Author.Tests.{eq-eqb, ne_eqb}
use lib.ListN.{length, get_or, take, drop, drop_of_length-le}
use lib.Seq.{drop-cons}
use Rattle.std.specs.Prelude.{cond, not, nat_lt, Some, None, position}
use Rattle.std.specs.List.{position_or_len}
use Rattle.std.proofs.lemmas.Grind.{common_steps}
use Rattle.std.proofs.lemmas.List.Sums.{prefix_len-le-length}
use Rattle.std.proofs.lemmas.Option.{cond_some}
use Rattle.std.proofs.lemmas.List.Recursion.{is_position_or_len}
use Rattle.laws.specs.Choice.{pick}
use Rattle.text.specs.Script.{is_lf, on_first, lines_of, up_to}

module _ (s : List ℕ) (i : ℕ) where
  pub ends-here : i < length s → get_or s i 0 ≡ 10 → up_to (drop i s) ≡ 0
  ends-here h e = rw (drop-cons s i 0 h, eq-eqb (get_or s i 0) 10 e)

  pub ends-later : i < length s → (get_or s i 0 ≡ 10 → ⊥) → up_to (drop i s) ≡ suc (up_to (drop (i + 1) s))
  ends-later h n = rw (add-one i, drop-cons s i 0 h, ne_eqb (get_or s i 0) 10 n)

  pub ends-past : length s ≤ i → up_to (drop i s) ≡ 0
  ends-past h = rw (drop_of_length-le s h)

up_to_step : (t : Bool) (n : ℕ) → pick t 0 (suc n) ≡ cond t 0 (1 + n)
up_to_step true n = refl
up_to_step false n = omega arith

-- a script by its first line, whatever follows
first_by : (c : ℕ) (s rest : List ℕ) (t : Bool) → is_lf c ≡ t → (up_to s < length s → lines_of (s ++ rest) ≡ take (up_to s) s ∷ lines_of (drop (suc (up_to s)) s ++ rest)) → up_to (c ∷ s) < length (c ∷ s) → lines_of (c ∷ (s ++ rest)) ≡ take (up_to (c ∷ s)) (c ∷ s) ∷ lines_of (drop (suc (up_to (c ∷ s))) (c ∷ s) ++ rest)
first_by c s rest true e f h = rw e
first_by c s rest false e f h =
    let g : suc (up_to s) < length (c ∷ s) = rw e at h in rw (e, f (omega arith))

pub lines_first : (s rest : List ℕ) → up_to s < length s → lines_of (s ++ rest) ≡ take (up_to s) s ∷ lines_of (drop (suc (up_to s)) s ++ rest)
lines_first [] rest h = absurd (not-suc-le-zero h)
lines_first (c ∷ s) rest h = first_by c s rest (is_lf c) refl (lines_first s rest) h

-- characters without an LF are one line
last_by : (c : ℕ) (s : List ℕ) (t : Bool) → is_lf c ≡ t → (up_to s ≡ length s → on_first c (lines_of s) ≡ (c ∷ s) ∷ []) → up_to (c ∷ s) ≡ length (c ∷ s) → lines_of (c ∷ s) ≡ (c ∷ s) ∷ []
last_by c s true e f h = let g : 0 ≡ length (c ∷ s) = rw e at h in absurd (omega arith)
last_by c s false e f h = let g : suc (up_to s) ≡ length (c ∷ s) = rw e at h in rw e (f (omega arith))

pub lines_last : (c : ℕ) (s : List ℕ) → up_to (c ∷ s) ≡ length (c ∷ s) → lines_of (c ∷ s) ≡ (c ∷ s) ∷ []
lines_last c [] h = last_by c [] (is_lf c) refl (λ g. refl) h
lines_last c (d ∷ s) h = last_by c (d ∷ s) (is_lf c) refl (λ g. rw (lines_last d s g)) h

-- characters without an LF begin the first line, whatever follows
pub record Begins (s rest : List ℕ) : Type 0 where
  pub line : List ℕ
  pub others : List (List ℕ)
  pub lines : lines_of (s ++ rest) ≡ line ∷ others
  pub longer : length s ≤ length line

one_begins : (c : ℕ) (ls : List (List ℕ)) (rest : List ℕ) → is_lf c ≡ false → lines_of rest ≡ ls → Begins (c ∷ []) rest
one_begins c [] rest e q = record { line = c ∷ []; others = []; lines = rw (e, q); longer = omega arith }
one_begins c (l ∷ ls) rest e q = record { line = c ∷ l; others = ls; lines = rw (e, q); longer = omega arith }

no_lf : (c : ℕ) (s : List ℕ) (t : Bool) → is_lf c ≡ t → up_to (c ∷ s) ≡ length (c ∷ s) → (is_lf c ≡ false) × (up_to s ≡ length s)
no_lf c s true e h = let g : 0 ≡ length (c ∷ s) = rw e at h in absurd (omega arith)
no_lf c s false e h = let g : suc (up_to s) ≡ length (c ∷ s) = rw e at h in (e, omega arith)

more_begins : (c : ℕ) {s rest : List ℕ} → is_lf c ≡ false → Begins s rest → Begins (c ∷ s) rest
more_begins c e b = record { line = c ∷ b.line; others = b.others; lines = rw (e, b.lines); longer = omega arith }

pub begins : (c : ℕ) (s rest : List ℕ) → up_to (c ∷ s) ≡ length (c ∷ s) → Begins (c ∷ s) rest
begins c [] rest h = one_begins c (lines_of rest) rest (no_lf c [] (is_lf c) refl h).0 refl
begins c (d ∷ s) rest h =
    let n = no_lf c (d ∷ s) (is_lf c) refl h in more_begins c n.0 (begins d s rest n.1)

-- what `position` finds
up_to_position : (s : List ℕ) → up_to s ≡ position_or_len is_lf s
up_to_position s = is_position_or_len up_to is_lf refl (λ c cs. up_to_step (is_lf c) (up_to cs)) s

pub up_to_found : (s : List ℕ) (i : ℕ) → Some i ≡ position is_lf s → i ≡ up_to s
up_to_found s i e = grind (arith, common_steps, up_to_position s, cond_some (nat_lt (position_or_len is_lf s) (length s)) (position_or_len is_lf s) i (sym e))

pub up_to_end : (s : List ℕ) → None ≡ position is_lf s → up_to s ≡ length s
up_to_end s e = grind (arith, common_steps, up_to_position s, prefix_len-le-length (λ c. not (is_lf c)) s)
