-- Characters held one after the other.
use mathlib.Core.Path.{◌≡◌, sym, ap, ◌∙◌}
use mathlib.Core.List.{List, [], ◌∷◌, ◌++◌, append_assoc, append-nil}
use Prim.Native.Nat.{ℕ, ◌+◌, ◌<◌, ◌≤◌}
use native.Mathlib.Numerals.{add-one}
use native.Mathlib.Omega.{arith}
use lib.ListN.{length, get_or, take, set, length-append}
use lib.Seq.{take-suc, take-suc-set, take_all}
use native.Mathlib.Decide.{dec_lt}
use Rattle.hex_chunks.specs.Kept.{Kept}
use Rattle.hex_chunks.specs.declared.held.HeldLine.{HeldLine}

pub kept_one : (held : HeldLine) (line : List ℕ) (c : ℕ) → held.count < 522 → length held.chars ≡ 522 → Kept held line → Kept (record { chars = set held.chars held.count c; count = held.count + 1 }) (line ++ (c ∷ []))
kept_one held line c h s k =
    let e = k.short (omega arith) in
    record {
      short = λ l. (rw (add-one held.count, take-suc-set held.chars held.count c (omega arith)) (ap (λ (l : List ℕ). l ++ (c ∷ [])) e.0), omega (arith, e.1, length-append line (c ∷ [])));
      long = λ l. absurd (omega arith);
      most = omega arith;
    }

long-by : (held : HeldLine) (line : List ℕ) (c : ℕ) → 522 ≤ held.count → Kept held line → Dec (522 < held.count) → 522 < length (line ++ (c ∷ []))
long-by held line c h k (yes l) = omega (arith, k.long l, length-append line (c ∷ []))
long-by held line c h k (no l) = let e = k.short (omega arith) in omega (arith, e.1, length-append line (c ∷ []))

pub kept_long : (held : HeldLine) (line : List ℕ) (c : ℕ) → 522 ≤ held.count → Kept held line → Kept (record { chars = held.chars; count = 523 }) (line ++ (c ∷ []))
kept_long held line c h k =
    record {
      short = λ m. absurd (omega arith);
      long = λ m. long-by held line c h k (dec_lt 522 held.count);
      most = omega arith;
    }

-- one more of a part is held
pub part_none : {held : HeldLine} (line part : List ℕ) → Kept held line → Kept held (line ++ take 0 part)
part_none line part k = rw (append-nil line) k

pub part_more : {held : HeldLine} (line part : List ℕ) (i : ℕ) → i < length part → Kept held ((line ++ take i part) ++ (get_or part i 0 ∷ [])) → Kept held (line ++ take (i + 1) part)
part_more line part i h k =
    let e : (line ++ take i part) ++ (get_or part i 0 ∷ []) ≡ line ++ take (i + 1) part = append_assoc line (take i part) (get_or part i 0 ∷ []) ∙ ap (λ (l : List ℕ). line ++ l) (sym (rw (add-one i) (take-suc part i 0 h))) in
    rw e at k

pub part_all : {held : HeldLine} (line part : List ℕ) (i : ℕ) → length part ≤ i → Kept held (line ++ take i part) → Kept held (line ++ part)
part_all line part i h k = rw (take_all i part h) at k
