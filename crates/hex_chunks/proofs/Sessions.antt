-- A session that a state and a work buffer carry: made ready, fed, final or not.
use mathlib.Core.Path.{◌≡◌, refl}
use mathlib.Core.Bool.{Bool, true, false}
use mathlib.Core.List.{List, []}
use Prim.Native.Nat.{ℕ, ◌^◌, ◌<◌, ◌≤◌}
use native.Mathlib.Omega.{arith}
use lib.ListN.{length}
use Rattle.laws.specs.Choice.{either}
use Rattle.hex_reader.specs.Work.{Holds}
use Rattle.hex_reader.specs.Progress.{Progress, going, Reading, good, refused, after_lines}
use Rattle.hex_reader.specs.Reached.{Reached, IsFault, is_stopped}
use Rattle.hex_reader.specs.declared.progress.Stage.{Stage}
use Rattle.hex_reader.specs.declared.progress.Stage.TheVariants.{Going, Ended}
use Rattle.std.specs.Prelude.{Result, Ok, Err}
use Rattle.numbers.specs.Numbered.{refusal_number}
use Rattle.hex_reader.specs.declared.fault.HexFault.{HexFault}
use Rattle.hex_chunks.specs.declared.held.HeldLine.{HeldLine}
use Rattle.hex_chunks.specs.Cut.{Session, fed, told, completed, by_progress, fed_to}
use Rattle.hex_reader.proofs.progress.Numbers.{ProgressIn, lines_in}
use Rattle.hex_chunks.specs.Carries.{TellsFault, InRanges, Along, Chunked, Readied, CarriesText, StoppedAt, Carries, TellsFaultAt, Tells, told_of}
use Rattle.hex_chunks.specs.declared.HexChunks.{HexChunks}
use Rattle.hex_chunks.proofs.Along.{kept_none}

module _ (image_size : ℕ) where
  start-along : (held : HeldLine) (work : List ℕ) → held.count ≡ 0 → Holds image_size work [] → Along image_size [] held 1 (Ok Going) work
  start-along held work z h =
      record {
        kept = kept_none held z;
        number = refl;
        reached = record { records = []; is = refl; holds = h };
        on = refl;
        counted = omega arith;
      }

  -- the work buffer is made ready
  ready_by : (s : HexChunks) (before after text : List ℕ) (b : Bool) → Readied image_size b before after → CarriesText image_size s before text b → Along image_size text s.held s.line s.stage after
  ready_by s before after text true r c = rw r c
  ready_by s before after text false r c =
      rw (c.0, c.2, c.3) (start-along s.held after c.1 r)

  pub ready : (s : HexChunks) (before after text : List ℕ) → Readied image_size s.begun before after → CarriesText image_size s before text s.begun → Along image_size text s.held s.line s.stage after
  ready s before after text r c = ready_by s before after text s.begun r c

  -- what a chunk leaves is carried, and told
  chunked-by : (s : HexChunks) (work text : List ℕ) (p : Progress) (stage : Result Stage HexFault) → s.stage ≡ stage → Reached image_size stage work p → (is_stopped stage ≡ false → Along image_size text s.held s.line s.stage work)
      → s.begun ≡ true → s.over ≡ false → length text < 2 ^ 64 → s.held.count ≤ 523 → 1 ≤ s.line → ProgressIn p → Carries image_size s work (by_progress text p) × Tells (told_of s.over s.stage) (by_progress text p)
  chunked-by s work text p (Ok Going) e r a b o l h k g = rw (r.is, b, o, e) ((l, refl, rw e at (a refl)), refl)
  chunked-by s work text p (Ok Ended) e r a b o l h k g = rw (r.is, b, o, e) ((l, refl, rw e at (a refl)), refl)
  chunked-by s work text p (Err first) e r a b o l h k g =
      let f : IsFault (refusal_number first.refusal) = rw r at g in
      let ranges : InRanges s = record { held = h; lines = k; fault = rw e f } in
      rw r ((rw e (refl, refl), ranges), rw e (refl, refl))

  pub chunked : (s : HexChunks) (work text : List ℕ) → Chunked image_size text s work → length text < 2 ^ 64 → Carries image_size s work (fed_to image_size text) × Tells (told_of s.over s.stage) (fed_to image_size text)
  unfolding fed_to
  chunked s work text c l =
      chunked-by s work text (after_lines image_size (going []) 1 (completed [] text)) s.stage refl c.reached c.along c.begun c.over l c.held c.lines (lines_in image_size (going []) 1 (completed [] text) tt)

  -- a state is final exactly where something was told for good
  open_by : (s : HexChunks) (work text : List ℕ) (b : Bool) → CarriesText image_size s work text b → is_stopped s.stage ≡ false
  open_by s work text true c = c.on
  open_by s work text false c = rw c.3 refl

  -- a session of a text keeps the counts in their ranges
  counts-by : (s : HexChunks) (work text : List ℕ) (b : Bool) → CarriesText image_size s work text b → (s.held.count ≤ 523) × (1 ≤ s.line)
  counts-by s work text true c = (c.kept.most, let k = c.number in omega arith)
  counts-by s work text false c = (let k = c.1 in omega arith, let k = c.2 in omega arith)

  pub counts : (s : HexChunks) (work text : List ℕ) → Carries image_size s work (fed text) → (s.held.count ≤ 523) × (1 ≤ s.line)
  counts s work text c = counts-by s work text s.begun c.2

  not-stopped-tells : (stage : Result Stage HexFault) → is_stopped stage ≡ false → TellsFault stage
  not-stopped-tells (Ok stage) e = tt
  not-stopped-tells (Err first) e = cc

  -- a state that carries a session is in its ranges
  pub in-ranges : (s : HexChunks) (work : List ℕ) (session : Session) → Carries image_size s work session → InRanges s
  in-ranges s work (fed text) c =
      let k = counts s work text c in
      record { held = k.0; lines = k.1; fault = not-stopped-tells s.stage (open_by s work text s.begun c.2) }
  in-ranges s work (told (good ds)) c = c.2
  in-ranges s work (told (refused number line)) c = c.1

  pub not-final : (s : HexChunks) (work text : List ℕ) → Carries image_size s work (fed text) → either s.over (is_stopped s.stage) ≡ false
  not-final s work text c = rw (c.1, open_by s work text s.begun c.2)

  good-told : (over : Bool) (stage : Result Stage HexFault) → over ≡ true → is_stopped stage ≡ false → told_of over stage ≡ told_of true (Ok Going)
  good-told over (Ok stage) o e = rw o
  good-told over (Err first) o e = cc

  fault-told : (over : Bool) (stage : Result Stage HexFault) (number line : ℕ) → StoppedAt stage number line → TellsFaultAt (told_of over stage) number line
  fault-told over (Ok stage) number line h = absurd h
  fault-told over (Err first) number line h = h

  fault-stopped : (stage : Result Stage HexFault) (number line : ℕ) → StoppedAt stage number line → is_stopped stage ≡ true
  fault-stopped (Ok stage) number line h = absurd h
  fault-stopped (Err first) number line h = refl

  pub final-tells : (s : HexChunks) (work : List ℕ) (t : Reading) → Carries image_size s work (told t) → Tells (told_of s.over s.stage) (told t)
  final-tells s work (good ds) c = good-told s.over s.stage c.0 c.1
  final-tells s work (refused number line) c = fault-told s.over s.stage number line c.0

  final-by : (over b : Bool) → over ≡ true → either over b ≡ true
  final-by true b e = refl
  final-by false b e = absurd (let z : ◌≡◌ {A = ℕ} 0 1 = cc in omega arith)

  either-stopped : (over : Bool) → either over true ≡ true
  either-stopped true = refl
  either-stopped false = refl

  pub is-final : (s : HexChunks) (work : List ℕ) (t : Reading) → Carries image_size s work (told t) → either s.over (is_stopped s.stage) ≡ true
  is-final s work (good ds) c = final-by s.over (is_stopped s.stage) c.0
  is-final s work (refused number line) c = rw (fault-stopped s.stage number line c.0) (either-stopped s.over)

  pub told-carried : (s : HexChunks) (w x : List ℕ) (t : Reading) → Carries image_size s w (told t) → Carries image_size s x (told t)
  told-carried s w x (good ds) c = c
  told-carried s w x (refused number line) c = c
