-- A text cut anywhere: the lines that its parts complete, and the line that is left begun, are those of the whole.
use mathlib.Core.Path.{◌≡◌, refl, sym, ap, ◌∙◌}
use mathlib.Core.Bool.{Bool, true, false}
use mathlib.Core.List.{List, [], ◌∷◌, ◌++◌, append_assoc, append-nil}
use Prim.Native.Nat.{ℕ, suc}
use borrow.Author.Tests.{eqb-true}
use lib.ListN.{length}
use Rattle.text.specs.Script.{is_lf, up_to}
use Rattle.hex_reader.specs.Lines.{hex_lines, without_cr}
use Rattle.hex_reader.proofs.lines.Splits.{no_lf, ended, unended}
use Rattle.hex_chunks.specs.Cut.{completed, begun_after}

-- a part after a part
completed_by : (begun : List ℕ) (c : ℕ) (s t : List ℕ) (b : Bool) → is_lf c ≡ b → ((x : List ℕ) → completed x (s ++ t) ≡ completed x s ++ completed (begun_after x s) t) → completed begun (c ∷ (s ++ t)) ≡ completed begun (c ∷ s) ++ completed (begun_after begun (c ∷ s)) t
completed_by begun c s t true e f = rw e (ap (λ (l : List (List ℕ)). without_cr begun ∷ l) (f []))
completed_by begun c s t false e f = rw e (f (begun ++ (c ∷ [])))

pub completed_then : (begun s t : List ℕ) → completed begun (s ++ t) ≡ completed begun s ++ completed (begun_after begun s) t
completed_then begun [] t = refl
completed_then begun (c ∷ s) t = completed_by begun c s t (is_lf c) refl (λ x. completed_then x s t)

begun_by : (begun : List ℕ) (c : ℕ) (s t : List ℕ) (b : Bool) → is_lf c ≡ b → ((x : List ℕ) → begun_after x (s ++ t) ≡ begun_after (begun_after x s) t) → begun_after begun (c ∷ (s ++ t)) ≡ begun_after (begun_after begun (c ∷ s)) t
begun_by begun c s t true e f = rw e (f [])
begun_by begun c s t false e f = rw e (f (begun ++ (c ∷ [])))

pub begun_then : (begun s t : List ℕ) → begun_after begun (s ++ t) ≡ begun_after (begun_after begun s) t
begun_then begun [] t = refl
begun_then begun (c ∷ s) t = begun_by begun c s t (is_lf c) refl (λ x. begun_then x s t)

-- a part without an LF completes nothing
pub completed_none : (begun s : List ℕ) → up_to s ≡ length s → completed begun s ≡ []
completed_none begun [] h = refl
completed_none begun (c ∷ s) h =
    let n = no_lf c s (is_lf c) refl h in rw n.0 (completed_none (begun ++ (c ∷ [])) s n.1)

pub begun_more : (begun s : List ℕ) → up_to s ≡ length s → begun_after begun s ≡ begun ++ s
begun_more begun [] h = sym (append-nil begun)
begun_more begun (c ∷ s) h =
    let n = no_lf c s (is_lf c) refl h in
    rw n.0 (begun_more (begun ++ (c ∷ [])) s n.1 ∙ append_assoc begun (c ∷ []) s)

-- the lines of the whole: those that are completed, and what is begun, if there is any
abbrev pub last_line : List ℕ → List (List ℕ)
last_line [] = []
last_line (c ∷ s) = (c ∷ s) ∷ []

last_lines : (begun : List ℕ) → up_to begun ≡ length begun → hex_lines begun ≡ last_line begun
last_lines [] h = refl
last_lines (c ∷ s) h = unended c s h

up_to_more : (s : List ℕ) (c : ℕ) → up_to s ≡ length s → is_lf c ≡ false → up_to (s ++ (c ∷ [])) ≡ length (s ++ (c ∷ []))
up_to_more [] c h e = rw e
up_to_more (d ∷ s) c h e = let n = no_lf d s (is_lf d) refl h in rw n.0 (ap suc (up_to_more s c n.1 e))

lines_by : (begun : List ℕ) (c : ℕ) (t : List ℕ) (b : Bool) → is_lf c ≡ b → up_to begun ≡ length begun → ((x : List ℕ) → up_to x ≡ length x → hex_lines (x ++ t) ≡ completed x t ++ last_line (begun_after x t)) → hex_lines (begun ++ c ∷ t) ≡ completed begun (c ∷ t) ++ last_line (begun_after begun (c ∷ t))
lines_by begun c t true e h f =
    let d = eqb-true c 10 e in
    rw (e, d) (ended begun t h ∙ ap (λ (l : List (List ℕ)). without_cr begun ∷ l) (f [] refl))
lines_by begun c t false e h f =
    rw (e, ← append_assoc begun (c ∷ []) t) (f (begun ++ (c ∷ [])) (up_to_more begun c h e))

pub lines_of : (begun t : List ℕ) → up_to begun ≡ length begun → hex_lines (begun ++ t) ≡ completed begun t ++ last_line (begun_after begun t)
lines_of begun [] h = rw (append-nil begun) (last_lines begun h)
lines_of begun (c ∷ t) h = lines_by begun c t (is_lf c) refl h (λ x g. lines_of x t g)
