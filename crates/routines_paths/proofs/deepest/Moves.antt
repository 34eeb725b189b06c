-- The moves of the depth's way, by what is read of a number, and the arrays to work in.
use mathlib.Core.Path.{◌≡◌, sym, ap, ◌∙◌}
use mathlib.Core.Logic.{inl, inr}
use mathlib.Core.List.{List, ◌∷◌}
use Prim.Native.Nat.{ℕ, suc, ◌+◌, ◌-◌, ◌≤◌, ◌<◌, max}
use native.Mathlib.Omega.{arith}
use native.Mathlib.Numerals.{add-one}
use native.Mathlib.Decide.{ℕ_discrete}
use lib.ListN.{length, get_or, set, length-set}
use lib.Seq.{get_or-set_same, get_or-set_other}
use mir.Val.{Fits}
use mir.Syntax.{w16, w32, w64}
use Rattle.graph.specs.Graph.{Graph}
use Rattle.graph_search.specs.Marks.{Blank}
use Rattle.graph_search.proofs.Zeros.{within_blank, within_set}
use Rattle.routines_joined.specs.Words.{NodeIs}
use Rattle.routines_paths.specs.Open.{open_of}
use Rattle.routines_paths.specs.Deep.{later, total, Move, to_next, to_other, into, back, Turned, Pended, Working}
use Rattle.routines_paths.proofs.Open.{open_length, open_set, open_push, open_top}

module _ {g : Graph} {dep : List ℕ} {goal reached v k a b : ℕ} (i : NodeIs g v k a b) where
  -- the total, as the code has it
  pub turned : {stack pend : List ℕ} {top m r : ℕ} → Pended dep stack pend top → k ≡ 1 → m ≡ max (max reached (get_or pend top 0)) (top + get_or dep a 0) → Turned goal m a b r
      → Move g dep goal reached (open_of stack top) v reached (open_of stack top) r
  turned {stack} {pend} {top} {m} {r} p z e t = go t
    where
      is : m ≡ total dep reached (open_of stack top) (g.next v)
      is = rw (← i.next, open_length stack top, ← p.at top (omega arith)) e

      go : Turned goal m a b r → Move g dep goal reached (open_of stack top) v reached (open_of stack top) r
      go (inl (w, h)) = to_next (sym i.kind ∙ z) (w ∙ i.next) (rw is at h)
      go (inr (w, h)) = to_other (sym i.kind ∙ z) (w ∙ i.other) (rw is at h)

  pub entered : (stack : List ℕ) (top : ℕ) {ks' : List ℕ} {w y : ℕ} → k ≡ 3 → w ≡ a → y ≡ max reached (top + 1) → ks' ≡ b ∷ open_of stack top → Move g dep goal reached (open_of stack top) v y ks' w
  entered stack top {y = y} z e m o =
      let more : y ≡ max reached (suc (length (open_of stack top))) = rw (open_length stack top) (m ∙ ap (λ (x : ℕ). max reached x) (add-one top)) in
      rw o (into (sym i.kind ∙ z) (e ∙ i.next) i.other more)

pub moved_back : {g : Graph} {dep : List ℕ} {goal reached : ℕ} (stack : List ℕ) {v top : ℕ} → g.kind v ≡ 2 → 0 < top
    → Move g dep goal reached (open_of stack top) v reached (open_of stack (top - 1)) (get_or stack (top - 1) 0)
moved_back stack {top = top} e h = rw (open_top stack top h) (back e)

pub turned_lt : {goal m a b r n : ℕ} → a < n → b < n → Turned goal m a b r → r < n
turned_lt h l (inl (e, g)) = rw e h
turned_lt h l (inr (e, g)) = rw e l

-- what can be reached later, with one call more
pended_push : {dep stack pend : List ℕ} {top m : ℕ} (b : ℕ) → Pended dep stack pend top → top < length stack → top + 1 < length pend → m ≡ max (top + get_or dep b 0) (get_or pend top 0)
    → Pended dep (set stack top b) (set pend (top + 1) m) (top + 1)
unfolding later
pended_push {dep} {stack} {pend} {top} {m} b p l q e = record { at = λ t h. go t h (ℕ_discrete t (top + 1)) }
  where
    go : (t : ℕ) → t ≤ top + 1 → Dec (t ≡ top + 1) → get_or (set pend (top + 1) m) t 0 ≡ later dep (open_of (set stack top b) t)
    go t h (yes z) = rw (z, get_or-set_same pend (top + 1) m 0 q, open_push stack top b l, open_length stack top) (e ∙ ap (λ (x : ℕ). max (top + get_or dep b 0) x) (p.at top (omega arith)))
    go t h (no z) = rw (get_or-set_other pend (top + 1) t m 0 z, open_set stack t top b (omega arith)) (p.at t (omega arith))

pub working_push : {dep stack pend : List ℕ} {top m : ℕ} (b : ℕ) → Working dep stack pend top → top < length stack → b < length dep → m ≡ max (top + get_or dep b 0) (get_or pend top 0)
    → Working dep (set stack top b) (set pend (top + 1) m) (top + 1)
working_push {stack = stack} {pend = pend} {top = top} {m = m} b w l h e =
    record {
      beside = omega (arith, w.beside, length-set stack top b, length-set pend (top + 1) m);
      small = omega (arith, w.small, length-set stack top b);
      few = w.few;
      stacked = within_set _ _ l h w.stacked;
      pended = pended_push b w.pended l (omega (arith, w.beside)) e;
    }

pub working_pop : {dep stack pend : List ℕ} {top t : ℕ} → t ≤ top → Working dep stack pend top → Working dep stack pend t
working_pop l w = record { beside = w.beside; small = w.small; few = w.few; stacked = w.stacked; pended = record { at = λ u h. w.pended.at u (omega arith) } }

-- arrays as they are declared
pub working_start : {dep stack pend : List ℕ} → length stack ≡ 32768 → length pend ≡ 32769 → 0 < length dep → length dep ≤ 16384 → Blank stack → Blank pend → Working dep stack pend 0
unfolding later open_of
working_start {dep} {stack} {pend} e f some few b z =
    record { beside = omega arith; small = omega arith; few = few; stacked = within_blank some b; pended = record { at = go } }
  where
    go : (t : ℕ) → t ≤ 0 → get_or pend t 0 ≡ later dep (open_of stack t)
    go t h = let u : t ≡ 0 = omega arith in rw u (z.at 0)

pub wide32 : {x : ℕ} → Fits w32 x → Fits w64 x
wide32 {x} h = record { fits = omega (arith, h.fits) }

pub sum_fits : (top x : ℕ) → top < 65536 → Fits w16 x → Fits w64 (top + x)
sum_fits top x l h = record { fits = omega (arith, h.fits) }

pub most_fits : (top x p m : ℕ) → top < 65536 → Fits w16 x → Fits w32 p → m ≡ max (top + x) p → Fits w32 m
most_fits top x p m l h q e = record { fits = omega (arith, h.fits, q.fits) }
