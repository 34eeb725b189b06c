-- Along a chunk: a part of a line is held, a line is completed, a fault stops it.
use mathlib.Core.Path.{◌≡◌, refl, sym, ap, subst, ◌∙◌}
use mathlib.Core.Bool.{Bool, true, false}
use mathlib.Core.List.{List, [], ◌∷◌, ◌++◌, append_assoc, append-nil}
use Prim.Native.Nat.{ℕ, suc, ◌+◌, ◌-◌, ◌^◌, ◌<◌, ◌≤◌}
use native.Mathlib.Omega.{arith}
use lib.ListN.{length, take, drop, length-append, length-drop, take-append-drop}
use lib.Seq.{take-add, take_all, take_at, length-take-le}
use Rattle.laws.specs.Choice.{pick}
use Rattle.text.specs.Script.{up_to}
use Rattle.hex_reader.specs.Lines.{is_cr, without_cr}
use Rattle.hex_reader.proofs.lines.Splits.{clear, split_lf}
use Rattle.hex_reader.specs.Progress.{Progress, going, after_line, after_lines}
use Rattle.hex_reader.specs.Reached.{Reached, is_stopped}
use Rattle.std.specs.Prelude.{Result, Ok, Err}
use Rattle.numbers.specs.Numbered.{refusal_number}
use Rattle.hex_reader.specs.declared.fault.HexFault.{HexFault}
use Rattle.hex_reader.specs.declared.progress.Stage.{Stage}
use Rattle.hex_chunks.specs.declared.held.HeldLine.{HeldLine}
use Rattle.hex_reader.proofs.progress.Stops.{lines_then, stays}
use Rattle.hex_chunks.specs.Kept.{Kept, Completes}
use Rattle.hex_chunks.specs.Cut.{completed, begun_after}
use Rattle.hex_chunks.specs.Carries.{Along, Chunked}
use Rattle.hex_chunks.proofs.Cuts.{completed_then, begun_then, completed_none, begun_more}

pub kept_none : (held : HeldLine) → held.count ≡ 0 → Kept held []
kept_none held e = record { short = λ h. (rw e, e); long = λ h. absurd (omega arith); most = omega arith }

pick_up_to : (t : Bool) (c : ℕ) → length (pick t [] (c ∷ [])) ≤ 1
pick_up_to true c = omega arith
pick_up_to false c = omega arith

cr_up_to : (line : List ℕ) → length (without_cr line) ≤ length line
cr_up_to [] = omega arith
cr_up_to (c ∷ []) = pick_up_to (is_cr c) c
cr_up_to (c ∷ d ∷ line) = let h = cr_up_to (d ∷ line) in omega arith

module _ (image_size : ℕ) where
  stopped-on : (r : Result Stage HexFault) (w : List ℕ) (p : Progress) → is_stopped r ≡ true → Reached image_size r w p → (n : ℕ) (ls : List (List ℕ)) → Reached image_size r w (after_lines image_size p n ls)
  stopped-on (Ok stage) w p e h n ls = cc
  stopped-on (Err first) w p e h n ls = rw h (stays image_size (refusal_number first.refusal) first.line n ls)

  -- a text, and how far it was read
  module _ {text work : List ℕ} {held : HeldLine} {n : ℕ} {stage : Stage} (a : Along image_size text held n (Ok stage) work) where
    abbrev begun : List ℕ
    begun = begun_after [] text

    abbrev P : Progress
    P = after_lines image_size (going []) 1 (completed [] text)

    -- a part of a line, without an LF
    pub along-part : (part : List ℕ) (after : HeldLine) → up_to part ≡ length part → Kept after (begun ++ part) → Along image_size (text ++ part) after n (Ok stage) work
    along-part part after h k =
        let b : begun_after [] (text ++ part) ≡ begun ++ part = begun_then [] text part ∙ begun_more begun part h in
        let c : completed [] (text ++ part) ≡ completed [] text = completed_then [] text part ∙ (rw (completed_none begun part h) (append-nil (completed [] text))) in
        let m = a.counted in
        record {
          kept = rw b k;
          number = rw c a.number;
          reached = rw c a.reached;
          on = a.on;
          counted = rw b (omega (arith, length-append begun part, length-append text part));
        }

    -- its LF
    lines-LF : completed [] (text ++ (10 ∷ [])) ≡ completed [] text ++ (without_cr begun ∷ [])
    lines-LF = completed_then [] text (10 ∷ [])

    after-LF : after_lines image_size (going []) 1 (completed [] (text ++ (10 ∷ []))) ≡ after_line image_size P n (without_cr begun)
    after-LF =
        let e : n ≡ 1 + length (completed [] text) = a.number in
        rw (lines-LF, lines_then image_size (going []) 1 (completed [] text) (without_cr begun ∷ []), e)

    pub along-LF : (after : List ℕ) (empty : HeldLine) (r : Stage) (m : ℕ) → Completes image_size (without_cr begun) n stage work after (Ok r) → empty.count ≡ 0 → m ≡ n + 1 → Along image_size (text ++ (10 ∷ [])) empty m (Ok r) after
    along-LF after empty r m c z e =
        let l = c.long P a.reached refl in
        let b : begun_after [] (text ++ (10 ∷ [])) ≡ [] = begun_then [] text (10 ∷ []) in
        let k = a.counted in
        let j = a.number in
        record {
          kept = rw b (kept_none empty z);
          number = rw lines-LF (omega (arith, length-append (completed [] text) (without_cr begun ∷ [])));
          reached = rw after-LF (c.reached P a.reached);
          on = refl;
          counted = rw b (omega (arith, cr_up_to begun, length-append text (10 ∷ [])));
        }

    pub number_fits : length text < 2 ^ 64 → n < 2 ^ 64 - 1
    number_fits h = let k = a.counted in omega arith

    -- a line that stops the reading does so whatever follows
    pub stops-LF : (after rest : List ℕ) (r : Result Stage HexFault) → Completes image_size (without_cr begun) n stage work after r → is_stopped r ≡ true → Reached image_size r after (after_lines image_size (going []) 1 (completed [] ((text ++ (10 ∷ [])) ++ rest)))
    stops-LF after rest r c s =
        let lined = text ++ (10 ∷ []) in
        let others = completed (begun_after [] lined) rest in
        let p = after_line image_size P n (without_cr begun) in
        let m = 1 + length (completed [] lined) in
        let e : after_lines image_size (going []) 1 (completed [] (lined ++ rest)) ≡ after_lines image_size p m others = rw (completed_then [] lined rest, lines_then image_size (going []) 1 (completed [] lined) others, after-LF) in
        subst (Reached image_size r after) (sym e) (stopped-on r after p s (c.reached P a.reached) m others)

  -- places of a chunk: the part before the next LF, and the LF
  module _ (text chunk : List ℕ) (at lf : ℕ) (e : lf ≡ at + up_to (drop at chunk)) where
    abbrev rest : List ℕ
    rest = drop at chunk

    up : lf - at ≡ up_to rest
    up = omega arith

    to_part : (text ++ take at chunk) ++ take (lf - at) rest ≡ text ++ take lf chunk
    to_part =
        append_assoc text (take at chunk) (take (lf - at) rest) ∙ ap (λ (l : List ℕ). text ++ l) (rw (up, e) (sym (take-add at (up_to rest) chunk)))

    pub chunk_part : {work : List ℕ} {held after : HeldLine} {n : ℕ} {stage : Stage} → Along image_size (text ++ take at chunk) held n (Ok stage) work → ((line : List ℕ) → Kept held line → Kept after (line ++ take (lf - at) rest)) → Along image_size (text ++ take lf chunk) after n (Ok stage) work
    chunk_part {work} {held} {after} {n} {stage} a k =
        let c : up_to (take (lf - at) rest) ≡ length (take (lf - at) rest) = rw up (clear rest) in
        subst (λ (t : List ℕ). Along image_size t after n (Ok stage) work) to_part (along-part a (take (lf - at) rest) after c (k (begun_after [] (text ++ take at chunk)) a.kept))

    module _ (h : lf < length chunk) where
      one_more : (s : List ℕ) → up_to s < length s → take (suc (up_to s)) s ≡ take (up_to s) s ++ (10 ∷ [])
      one_more s l =
          let t : take (suc (up_to s)) (take (up_to s) s ++ 10 ∷ drop (suc (up_to s)) s) ≡ take (up_to s) s ++ (10 ∷ []) = rw (← append_assoc (take (up_to s) s) (10 ∷ []) (drop (suc (up_to s)) s)) (take_at (take (up_to s) s ++ (10 ∷ [])) (drop (suc (up_to s)) s) (suc (up_to s)) (omega (arith, length-append (take (up_to s) s) (10 ∷ []), length-take-le (up_to s) s (omega arith)))) in
          ap (take (suc (up_to s))) (split_lf s l) ∙ t

      to-LF : (text ++ take lf chunk) ++ (10 ∷ []) ≡ text ++ take (lf + 1) chunk
      to-LF =
          let n = length-drop at chunk in
          let k : lf + 1 ≡ at + suc (up_to rest) = omega arith in
          let m : take lf chunk ≡ take at chunk ++ take (up_to rest) rest = rw e (take-add at (up_to rest) chunk) in
          append_assoc text (take lf chunk) (10 ∷ [])
          ∙ ap (λ (l : List ℕ). text ++ l) (rw (k, take-add at (suc (up_to rest)) chunk, one_more rest (omega arith), m) (append_assoc (take at chunk) (take (up_to rest) rest) (10 ∷ [])))

      pub chunk-LF : {work after : List ℕ} {held empty : HeldLine} {n m : ℕ} {stage r : Stage} → (a : Along image_size (text ++ take lf chunk) held n (Ok stage) work) → Completes image_size (without_cr (begun_after [] (text ++ take lf chunk))) n stage work after (Ok r) → empty.count ≡ 0 → m ≡ n + 1 → Along image_size (text ++ take (lf + 1) chunk) empty m (Ok r) after
      chunk-LF {after = after} {empty = empty} {m = m} {r = r} a c z q =
          subst (λ (t : List ℕ). Along image_size t empty m (Ok r) after) to-LF (along-LF a after empty r m c z q)

      pub chunk-stops : {work after : List ℕ} {held : HeldLine} {n : ℕ} {stage : Stage} {r : Result Stage HexFault} → (a : Along image_size (text ++ take lf chunk) held n (Ok stage) work) → Completes image_size (without_cr (begun_after [] (text ++ take lf chunk))) n stage work after r → is_stopped r ≡ true → Reached image_size r after (after_lines image_size (going []) 1 (completed [] (text ++ chunk)))
      chunk-stops {after = after} {r = r} a c s =
          let w : ((text ++ take lf chunk) ++ (10 ∷ [])) ++ drop (lf + 1) chunk ≡ text ++ chunk = rw to-LF (append_assoc text (take (lf + 1) chunk) (drop (lf + 1) chunk) ∙ rw (take-append-drop (lf + 1) chunk)) in
          subst (λ (t : List ℕ). Reached image_size r after (after_lines image_size (going []) 1 (completed [] t))) w (stops-LF a after (drop (lf + 1) chunk) r c s)

  -- the chunk is over
  pub chunk-over : (text chunk : List ℕ) {work : List ℕ} {held : HeldLine} {n lf : ℕ} {stage : Stage} → Along image_size (text ++ take lf chunk) held n (Ok stage) work → lf ≡ length chunk → Chunked image_size (text ++ chunk) (record { held = held; line = n; stage = Ok stage; begun = true; over = false }) work
  chunk-over text chunk {work} {held} {n} {lf} {stage} a e =
      let b : Along image_size (text ++ chunk) held n (Ok stage) work = rw (take_all lf chunk (omega arith)) at a in
      let k = b.number in
      record { reached = b.reached; along = λ h. b; begun = refl; over = refl; held = b.kept.most; lines = omega arith }

  -- a fault stopped it
  pub chunk-stopped : (text : List ℕ) {work : List ℕ} {held : HeldLine} {n : ℕ} (first : HexFault) → Reached image_size (Err first) work (after_lines image_size (going []) 1 (completed [] text)) → held.count ≤ 523 → 1 ≤ n → Chunked image_size text (record { held = held; line = n; stage = Err first; begun = true; over = false }) work
  chunk-stopped text first h most lines =
      record { reached = h; along = λ e. cc; begun = refl; over = refl; held = most; lines = lines }
