-- The agreement of `sheet::timing` with the rows: one test over all first bytes, carried to each of them.
use mathlib.Core.Path.{◌≡◌, refl, ap, ◌∙◌}
use mathlib.Core.Bool.{Bool, true, false, not}
use mathlib.Core.List.{List, [], ◌∷◌, ◌++◌}
use mathlib.Core.Logic.{inl, inr}
use Prim.Native.Nat.{ℕ, ◌+◌, ◌/◌, ◌%◌, ◌<◌}
use native.Mathlib.Numerals.{one-add}
use lib.Dec.{T, eqb, eqb→eq}
use Rattle.laws.specs.Choice.{both, pick}
use Rattle.laws.proofs.Computed.{implies, modus, below, at, both_left, both_right, both_i}
use Rattle.sheet.specs.Code.{Group, has_digit, fits, digits}
use Rattle.sheet.specs.Table.{Code, Line, lines, line_at}
use Rattle.sheet.specs.Reading.{row_number, begins, begin_code, begin_some}
use Rattle.sheet.specs.Timing.{Timed, TimedFrom, NoneFrom, from}
use Rattle.sheet.specs.declared.Cost.{Cost}
use Rattle.sheet.proofs.Winning.{At, here, there, line_at_lem, Fitting, winner_is}

-- groups that fit digits begin with the first of them
pub begins_of : (gs : List Group) (ds es : List ℕ) → T (fits gs (ds ++ es)) → T (begins gs ds)
begins_of [] ds es t = tt
begins_of (g ∷ gs) [] es t = tt
begins_of (g ∷ gs) (d ∷ ds) es t =
    both_i (has_digit g d) (begins gs ds) (both_left (has_digit g d) (fits gs (ds ++ es)) t)
    (begins_of gs ds es (both_right (has_digit g d) (fits gs (ds ++ es)) t))

pub yes_pick : (t u : Bool) → T t → T (pick t true u)
yes_pick true u h = tt
yes_pick false u h = absurd h

pub no_pick : (t u : Bool) → T u → T (pick t true u)
no_pick true u h = tt
no_pick false u h = h

pub begin_of : (cs : List Code) (ds es : List ℕ) → Fitting cs (ds ++ es) → T (begin_code cs ds)
begin_of [] ds es f = f
begin_of (c ∷ cs) ds es (inl t) = yes_pick (begins c.groups ds) (begin_code cs ds) (begins_of c.groups ds es t)
begin_of (c ∷ cs) ds es (inr f) = no_pick (begins c.groups ds) (begin_code cs ds) (begin_of cs ds es f)

-- each row that begins with the digits h and l has n bytes and t cycles
abbrev pub agree : List Line → ℕ → ℕ → ℕ → ℕ → Bool
agree [] h l n t = true
agree (r ∷ rs) h l n t = both (implies (begin_code r.codes (h ∷ l ∷ [])) (both (eqb r.bytes n) (eqb r.cycles t))) (agree rs h l n t)

agree_at : (h l n t : ℕ) {ls : List Line} {j : ℕ} {r : Line} → At ls j r → T (agree ls h l n t) → T (begin_code r.codes (h ∷ l ∷ [])) → T (both (eqb r.bytes n) (eqb r.cycles t))
agree_at h l n t {r = r} (here {ls = ls}) a f = modus (begin_code r.codes (h ∷ l ∷ [])) (both (eqb r.bytes n) (eqb r.cycles t)) (both_left (implies (begin_code r.codes (h ∷ l ∷ [])) (both (eqb r.bytes n) (eqb r.cycles t))) (agree ls h l n t) a) f
agree_at h l n t (there {m = m} {ls = ls} p) a f = agree_at h l n t p (both_right (implies (begin_code m.codes (h ∷ l ∷ [])) (both (eqb m.bytes n) (eqb m.cycles t))) (agree ls h l n t) a) f

timed_line : (n t j : ℕ) {r : Line} → At lines j r → T (both (eqb r.bytes n) (eqb r.cycles t)) → Timed (1 + j) n t
timed_line n t j {r} p e =
    let q : line_at (1 + j) ≡ r = ap line_at (one-add j) ∙ line_at_lem p in
    record {
      bytes = ap (λ (l : Line). l.bytes) q ∙ eqb→eq r.bytes n (both_left (eqb r.bytes n) (eqb r.cycles t) e);
      cycles = ap (λ (l : Line). l.cycles) q ∙ eqb→eq r.cycles t (both_right (eqb r.bytes n) (eqb r.cycles t) e);
    }

pub timed : (h l n t : ℕ) (ds : List ℕ) → T (agree lines h l n t) → (row_number (h ∷ l ∷ ds) ≡ 0 → ⊥) → Timed (row_number (h ∷ l ∷ ds)) n t
unfolding row_number
timed h l n t ds a =
    winner_is (λ (m : ℕ). (m ≡ 0 → ⊥) → Timed m n t) (h ∷ l ∷ ds) lines 1 (λ ne. absurd (ne refl))
    (λ j r p f ne. timed_line n t j p (agree_at h l n t p a (begin_of r.codes (h ∷ l ∷ []) ds f)))

abbrev agreeing : ℕ → Bool
agreeing b = agree lines (b / 16) (b % 16) (from b).bytes (from b).cycles

-- the one test over all first bytes
all_agree : T (below 256 agreeing)
unfolding lines
all_agree = tt

pub first_byte_lem : (b : ℕ) → b < 256 → TimedFrom b (from b).bytes (from b).cycles
first_byte_lem b h ds = timed (b / 16) (b % 16) (from b).bytes (from b).cycles ds (at agreeing 256 all_agree b h)

-- two tests that come out alike
abbrev pub same : Bool → Bool → Bool
same true b = b
same false b = not b

pub same_of : (a b : Bool) → T (same a b) → a ≡ b
same_of true true t = refl
same_of true false t = absurd t
same_of false true t = absurd t
same_of false false t = refl

-- no bytes exactly where no row begins
abbrev none : ℕ → Bool
none b = same (eqb (from b).bytes 0) (not (begin_some (digits (b ∷ []))))

all_none : T (below 256 none)
unfolding begin_some lines
all_none = tt

pub none_from : (b : ℕ) → b < 256 → NoneFrom b (from b).bytes
none_from b h = same_of (eqb (from b).bytes 0) (not (begin_some (digits (b ∷ [])))) (at none 256 all_none b h)

pub by_first : (b : ℕ) → b < 256 → (r : Cost) → r ≡ from b → record { timed_from : TimedFrom b r.bytes r.cycles; none_from : NoneFrom b r.bytes }
by_first b h r e = rw e (record { timed_from = first_byte_lem b h; none_from = none_from b h })
