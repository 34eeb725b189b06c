-- A run of calls that keep their promises ends as the whole text does.
use mathlib.Core.Path.{◌≡◌, subst, ◌∙◌}
use mathlib.Core.List.{List, [], ◌∷◌, ◌++◌}
use Prim.Native.Nat.{ℕ, ◌+◌, ◌^◌, ◌<◌}
use native.Mathlib.Omega.{arith}
use lib.ListN.{length, length-append}
use Rattle.hex_reader.specs.Work.{work_size}
use Rattle.hex_reader.specs.Progress.{Progress, going, ended, stopped, Reading, good, refused, after_lines, read_of}
use Rattle.hex_chunks.specs.Cut.{Session, fed, told, completed, by_progress, fed_to, after_chunk, after_end, after_chunks, image_of_reading, image_at_end, joined}
use Rattle.hex_chunks.specs.Carries.{Carries, Tells, Fits}
use Rattle.hex_chunks.specs.Run.{Run, ends, feeds, RunAsWhole}
use Rattle.std.specs.Prelude.{Result}
use Rattle.hex_reader.specs.declared.fault.HexRefusal.{HexRefusal}
use Rattle.hex_chunks.specs.declared.HexChunks.{HexChunks}
use Rattle.hex_chunks.specs.declared.Told.{Told}
use Rattle.hex_chunks.proofs.AnyCutting.{any_cutting}

-- what was told for good while chunks came is a refusal
abbrev Open : Session → Type 0
Open (fed text) = Unit
Open (told (good ds)) = ⊥
Open (told (refused number line)) = Unit

open_by : (text : List ℕ) (p : Progress) → Open (by_progress text p)
open_by text (going ds) = tt
open_by text (ended ds) = tt
open_by text (stopped number line) = tt

-- the chunks that are left fit
abbrev pub FitsAll : Session → List (List ℕ) → Type 0
FitsAll (fed text) chunks = length text + length (joined chunks) < 2 ^ 64
FitsAll (told r) chunks = Unit

fits_by : (text : List ℕ) (p : Progress) (chunks : List (List ℕ)) → length text + length (joined chunks) < 2 ^ 64 → FitsAll (by_progress text p) chunks
fits_by text (going ds) chunks h = h
fits_by text (ended ds) chunks h = h
fits_by text (stopped number line) chunks h = tt

module _ (image_size : ℕ) where
  open-chunk : (session : Session) (chunk : List ℕ) → Open session → Open (after_chunk image_size session chunk)
  unfolding fed_to
  open-chunk (fed text) chunk o = open_by (text ++ chunk) (after_lines image_size (going []) 1 (completed [] (text ++ chunk)))
  open-chunk (told r) chunk o = o

  open-chunks : (session : Session) (chunks : List (List ℕ)) → Open session → Open (after_chunks image_size session chunks)
  open-chunks session [] o = o
  open-chunks session (c ∷ cs) o = open-chunks (after_chunk image_size session c) cs (open-chunk session c o)

  pub fits_one : (session : Session) (c : List ℕ) (cs : List (List ℕ)) → FitsAll session (c ∷ cs) → Fits session c × FitsAll (after_chunk image_size session c) cs
  unfolding fed_to
  fits_one (fed text) c cs h = (
    omega (arith, length-append c (joined cs)),
    fits_by (text ++ c) (after_lines image_size (going []) 1 (completed [] (text ++ c))) cs (omega (arith, length-append c (joined cs), length-append text c)),
  )
  fits_one (told r) c cs h = (tt, tt)

  run-from : {s : HexChunks} {work image imageAfter : List ℕ} {chunks : List (List ℕ)} {t : Result Told HexRefusal} (session : Session) → Carries image_size s work session → FitsAll session chunks → length work ≡ work_size image_size → length image ≡ image_size
      → Run image_size s work image chunks t imageAfter → Tells t (after_end image_size (after_chunks image_size session chunks)) × (imageAfter ≡ image_at_end image_size (after_chunks image_size session chunks) image)
  run-from session c f w i (ends e) = ((e.ends w i session c).tells, e.written w i session c)
  run-from {chunks = d ∷ ds} session c f w i (feeds e r) =
      let g = fits_one session d ds f in
      run-from (after_chunk image_size session d) (e.feeds w i session c g.0).carries g.1 (e.size ∙ w) i r

  image-by : (session : Session) (image : List ℕ) (r : Reading) → Open session → after_end image_size session ≡ told r → image_at_end image_size session image ≡ image_of_reading image_size image r
  image-by (fed text) image r o e = let q : read_of image_size text ≡ r = cc in rw q
  image-by (told (good ds)) image r o e = absurd o
  image-by (told (refused number line)) image r o e = let q : r ≡ refused number line = cc in rw q

pub run_as_whole : RunAsWhole
run_as_whole image_size s work image imageAfter chunks t c w i h r =
    let q = run-from image_size (fed []) c (omega arith) w i r in
    let e = any_cutting image_size chunks in
    (subst (Tells t) e q.0, q.1 ∙ image-by image_size (after_chunks image_size (fed []) chunks) image (read_of image_size (joined chunks)) (open-chunks image_size (fed []) chunks tt) e)
