-- Whatever the chunks, empty ones among them: at the end the session tells what Q-3's reader says of the whole text.
use mathlib.Core.Path.{◌≡◌, refl, ◌∙◌}
use mathlib.Core.List.{List, [], ◌∷◌, ◌++◌, append_assoc, append-nil}
use Prim.Native.Nat.{ℕ}
use Rattle.hex_reader.specs.Progress.{Progress, going, ended, stopped, Reading, refused, after_lines, read_of}
use Rattle.hex_reader.proofs.progress.Stops.{lines_then, stays}
use Rattle.hex_reader.specs.Lines.{hex_lines}
use Rattle.hex_chunks.specs.Cut.{fed, told, completed, begun_after, by_progress, fed_to, after_end, after_chunks, joined, AnyCutting}
use Rattle.hex_chunks.proofs.Cuts.{completed_then, last_line, lines_of}

module _ (image_size : ℕ) where
  -- a fault in the lines so far is the whole text's, whatever follows
  fault-stays : (text rest : List ℕ) (number line : ℕ) → after_lines image_size (going []) 1 (completed [] text) ≡ stopped number line → read_of image_size (text ++ rest) ≡ refused number line
  unfolding read_of
  fault-stays text rest number line e =
      let l : hex_lines (text ++ rest) ≡ completed [] text ++ (completed (begun_after [] text) rest ++ last_line (begun_after [] (text ++ rest))) = lines_of [] (text ++ rest) refl ∙ (rw (completed_then [] text rest) (append_assoc (completed [] text) (completed (begun_after [] text) rest) (last_line (begun_after [] (text ++ rest))))) in
      rw (l, lines_then image_size (going []) 1 (completed [] text) (completed (begun_after [] text) rest ++ last_line (begun_after [] (text ++ rest))), e, stays image_size number line _ _)

  -- what was told stays image_size told
  told-stays : (r : Reading) (chunks : List (List ℕ)) → after_chunks image_size (told r) chunks ≡ told r
  told-stays r [] = refl
  told-stays r (c ∷ cs) = told-stays r cs

  by-progress : (text : List ℕ) (cs : List (List ℕ)) (p : Progress) → after_lines image_size (going []) 1 (completed [] text) ≡ p → after_end image_size (after_chunks image_size (fed text) cs) ≡ told (read_of image_size (text ++ joined cs)) → after_end image_size (after_chunks image_size (by_progress text p) cs) ≡ told (read_of image_size (text ++ joined cs))
  by-progress text cs (going ds) e f = f
  by-progress text cs (ended ds) e f = f
  by-progress text cs (stopped number line) e f =
      rw (told-stays (refused number line) cs, fault-stays text (joined cs) number line e)

  cutting : (text : List ℕ) (chunks : List (List ℕ)) → after_end image_size (after_chunks image_size (fed text) chunks) ≡ told (read_of image_size (text ++ joined chunks))
  unfolding fed_to
  cutting text [] = rw (append-nil text)
  cutting text (c ∷ cs) =
      rw (← append_assoc text c (joined cs)) (by-progress (text ++ c) cs (after_lines image_size (going []) 1 (completed [] (text ++ c))) refl (cutting (text ++ c) cs))

pub any_cutting : AnyCutting
any_cutting image_size chunks = cutting image_size [] chunks
