-- The end of a text that was carried: what is concluded is what the whole text is.
use mathlib.Core.Path.{◌≡◌, refl, sym, subst, ◌∙◌}
use mathlib.Core.List.{List, [], ◌∷◌, ◌++◌, append-nil}
use Prim.Native.Nat.{ℕ, ◌+◌, ◌<◌}
use native.Mathlib.Decide.{dec_lt}
use native.Mathlib.Omega.{arith}
use lib.ListN.{length, length-append}
use Rattle.hex_reader.specs.Lines.{hex_lines}
use Rattle.hex_reader.specs.Progress.{Progress, going, after_line, after_lines, at_end, read_lines, read_of}
use Rattle.hex_reader.specs.Reached.{Reached, Concluded}
use Rattle.hex_reader.specs.declared.progress.Stage.{Stage}
use Rattle.std.specs.Prelude.{Result, Ok, Err}
use Rattle.hex_reader.specs.declared.fault.HexFault.{HexFault}
use Rattle.hex_chunks.specs.declared.held.HeldLine.{HeldLine}
use Rattle.hex_reader.proofs.progress.Stops.{lines_then}
use Rattle.hex_chunks.specs.Kept.{Completes}
use Rattle.hex_chunks.specs.Cut.{completed, begun_after}
use Rattle.hex_chunks.specs.Carries.{Along}
use Rattle.hex_chunks.proofs.Cuts.{last_line, lines_of}

read_of_lem : (image_size : ℕ) (text : List ℕ) (ls : List (List ℕ)) → hex_lines text ≡ ls → read_of image_size text ≡ read_lines image_size (going []) 1 ls
unfolding read_of
read_of_lem image_size text ls e = rw e

empty : (l : List ℕ) → length l ≡ 0 → l ≡ []
empty [] h = refl
empty (c ∷ l) h = absurd (let z : ⊥ = omega arith in z)

some_line : (l : List ℕ) → (length l ≡ 0 → ⊥) → last_line l ≡ l ∷ []
some_line [] h = absurd (h refl)
some_line (c ∷ l) h = refl

module _ (image_size : ℕ) (text work : List ℕ) (held : HeldLine) (n : ℕ) (stage : Stage) (a : Along image_size text held n (Ok stage) work) where
  abbrev begun : List ℕ
  begun = begun_after [] text

  abbrev P : Progress
  P = after_lines image_size (going []) 1 (completed [] text)

  kept-length : Dec (522 < held.count) → (held.count ≡ 0 → ⊥) → length begun ≡ 0 → ⊥
  kept-length (yes l) h z = let m = a.kept.long l in omega arith
  kept-length (no l) h z = let m = (a.kept.short (omega arith)).1 in h (omega arith)

  -- no line is begun
  pub over : held.count ≡ 0 → (o : Result Unit HexFault) → ((p : Progress) → Reached image_size (Ok stage) work p → Concluded image_size o work (at_end p n)) → Concluded image_size o work (read_of image_size text)
  over h o f =
      let z : length begun ≡ 0 = let m = (a.kept.short (omega arith)).1 in omega arith in
      let l : hex_lines text ≡ completed [] text = lines_of [] text refl ∙ rw (empty begun z) (append-nil (completed [] text)) in
      let k = a.number in
      let m : 1 + length (completed [] text) ≡ n = omega arith in
      subst (Concluded image_size o work) (sym (read_of_lem image_size text (completed [] text) l ∙ rw m)) (f P a.reached)

  -- the line that is begun is the last
  pub over_last : (held.count ≡ 0 → ⊥) → (after : List ℕ) (r : Result Stage HexFault) (m : ℕ) → Completes image_size begun n stage work after r → m ≡ n + 1 → (o : Result Unit HexFault) → ((p : Progress) → Reached image_size r after p → Concluded image_size o after (at_end p m)) → Concluded image_size o after (read_of image_size text)
  over_last h after r m c e o f =
      let l : hex_lines text ≡ completed [] text ++ (begun ∷ []) = lines_of [] text refl ∙ rw (some_line begun (kept-length (dec_lt 522 held.count) h)) in
      let k = a.number in
      let i : 1 + length (completed [] text ++ (begun ∷ [])) ≡ m = omega (arith, length-append (completed [] text) (begun ∷ [])) in
      let j : 1 + length (completed [] text) ≡ n = omega arith in
      let q : read_of image_size text ≡ at_end (after_line image_size P n begun) m = read_of_lem image_size text (completed [] text ++ (begun ∷ [])) l ∙ rw (i, lines_then image_size (going []) 1 (completed [] text) (begun ∷ []), j) in
      subst (Concluded image_size o after) (sym q) (f (after_line image_size P n begun) (c.reached P a.reached))

-- a fault is concluded, wherever the text ends
pub fault_ends : (image_size : ℕ) (first : HexFault) (after : List ℕ) (m : ℕ) (p : Progress) → Reached image_size (Err first) after p → Concluded image_size (Err first) after (at_end p m)
fault_ends image_size first after m p h = rw h
