-- What is answered under counts (COUNTS.md, "Answer" and "Refusals"), in the order 24, 21, 22, 28, 27, 25, 23, and what becomes of the two path buffers.
use Rattle.std.specs.Prelude.{◌≡◌, Bool, List, [], ◌∷◌, ℕ, ◌≤◌, ◌<◌, length}
use Rattle.graph.specs.Graph.{Least, sum}
use Rattle.routines.specs.Calling.{Flow, Recurs, IsBad, depth, FirstOf}
use Rattle.routines.specs.Answer.{Found, recursion, excluded, repetition, LowestAddress, Judged, Kept, PathAnswer}
use Rattle.counts.specs.Counts.{Count, CountedPath, IsUncountedLoop}
use Rattle.counts.specs.Weights.{Weight}

-- "At most 16; a from 0 to 1FFFh, strictly ascending; k from 1 to 65,535.": what 26 refuses is not so
pub record Allowed (c : Count) : Type 0 where
  pub address : c.at ≤ 8191
  pub some : 1 ≤ c.most
  pub fits : c.most ≤ 65535

pub data Ascending : List Count → Type 0 where
  none : Ascending []
  one : {c : Count} → Allowed c → Ascending (c ∷ [])
  more : {c d : Count} {C : List Count} → Allowed c → c.at < d.at → Ascending (d ∷ C) → Ascending (c ∷ d ∷ C)

pub record Given (C : List Count) : Type 0 where
  pub few : length C ≤ 16
  pub ascending : Ascending C

-- what comes back: today's answers; 27; 28
pub data CountedFound : Type 0 where
  as_today : Found → CountedFound
  no_path : CountedFound
  too_many_turns : CountedFound

-- the most that 28 allows
abbrev pub most_turns : ℕ
most_turns = 32768

-- neither 21 nor 22 is answered: "24, 21: as today, without counts; so is K"
pub record Settled (f : Flow) (K : ℕ → Bool) (address : ℕ → ℕ) (C : List Count) : Type 0 where
  pub no_bad : (v : ℕ) → IsBad f K v → ⊥
  pub no_loop : (v : ℕ) → IsUncountedLoop f K address C v → ⊥

-- "N is the largest sum over counted paths from the start to RTI, the depth the greatest over the same paths; each path is the first of the largest"
pub record HasCountedBound (f : Flow) (cycles : ℕ → ℕ) (K : ℕ → Bool) (address : ℕ → ℕ) (C : List Count) (N d : ℕ) (path deep : List ℕ) : Type 0 where
  pub longest : FirstOf f (CountedPath f K address C) (sum cycles) path
  pub sum : N ≡ sum cycles path
  pub deepest : FirstOf f (CountedPath f K address C) (depth f) deep
  pub depth : d ≡ depth f deep

pub data CountedFlowAnswer (f : Flow) (cycles address : ℕ → ℕ) (C : List Count) (p p' q q' : List ℕ) (K : ℕ → Bool) : CountedFound → Type 0 where
  gives_21 : {a : ℕ} → LowestAddress address (IsBad f K) a → Kept p p' q q' → CountedFlowAnswer f cycles address C p p' q q' K (as_today (excluded a))
  gives_22 : {a : ℕ} → ((v : ℕ) → IsBad f K v → ⊥) → LowestAddress address (IsUncountedLoop f K address C) a → Kept p p' q q'
      → CountedFlowAnswer f cycles address C p p' q q' K (as_today (repetition a))
  gives_28 : {n : ℕ} → Settled f K address C → Weight f K address C n → most_turns < n → Kept p p' q q' → CountedFlowAnswer f cycles address C p p' q q' K too_many_turns
  -- "there is no counted path from the start to RTI"
  gives_27 : {n : ℕ} → Settled f K address C → Weight f K address C n → n ≤ most_turns → ((l : List ℕ) → CountedPath f K address C l → ⊥) → Kept p p' q q'
      → CountedFlowAnswer f cycles address C p p' q q' K no_path
  bounded : {n N d : ℕ} {path deep : List ℕ} {x : Found} → Settled f K address C → Weight f K address C n → n ≤ most_turns → HasCountedBound f cycles K address C N d path deep
      → PathAnswer address p p' q q' N d path deep x → CountedFlowAnswer f cycles address C p p' q q' K (as_today x)

pub data CountedAnswer (f : Flow) (cycles address : ℕ → ℕ) (C : List Count) (p p' q q' : List ℕ) : CountedFound → Type 0 where
  gives_24 : {e : ℕ} → Least (Recurs f) e → Kept p p' q q' → CountedAnswer f cycles address C p p' q q' (as_today (recursion e))
  judged : {K : ℕ → Bool} {x : CountedFound} → Judged f K → CountedFlowAnswer f cycles address C p p' q q' K x → CountedAnswer f cycles address C p p' q q' x
