-- A run of the calls on bytes that keep their promises ends as Q-3's reader does on the whole text.
use mathlib.Core.Path.{◌≡◌, ◌∙◌}
use mathlib.Core.Bool.{true}
use mathlib.Core.List.{List, [], ◌∷◌}
use Prim.Native.Nat.{ℕ}
use native.Mathlib.Omega.{arith}
use borrow.Author.Tests.{eq-eqb}
use lib.ListN.{length}
use Rattle.hex_reader.specs.Work.{work_size}
use Rattle.hex_reader.specs.Progress.{Reading, good, refused, read_of}
use Rattle.hex_reader.specs.Reader.{Result, result_of, read_into}
use Rattle.hex_chunks.specs.Cut.{Session, fed, told, after_chunk, image_of_reading, joined}
use Rattle.hex_chunks.specs.Carries.{Carries, Tells}
use Rattle.hex_chunks.specs.Run as runs
use Rattle.hex_chunks.specs.declared.Told.{Told}
use Rattle.hex_reader.specs.declared.fault.HexRefusal.{HexRefusal}
use Rattle.hex_reader.specs.declared.fault.HexRefusal.TheVariants.{Buffer, Fault}
use Rattle.std.specs.Prelude as std
use Rattle.hex_chunks.proofs.Sessions.{in-ranges}
use Rattle.hex_chunks.proofs.RunAsWhole.{FitsAll, fits_one, run_as_whole}
use Rattle.hex_calls.specs.Layout.{state_of, is_state}
use Rattle.hex_calls.proofs.state.Ranges.{is_state_lem}
use Rattle.hex_calls.specs.Chunks.{number_of, line_of, BytesRun, ends, feeds, BytesRunAsWhole}

-- what is told
abbrev Answered : Type 0
Answered = std.Result Told HexRefusal

-- the run on states that a run on bytes is, and the last answer
record OnStates (image_size : ℕ) (state work image : List ℕ) (chunks : List (List ℕ)) (number line : ℕ) (imageAfter : List ℕ) : Type 0 where
  told : Answered
  run : runs.Run image_size (state_of state) work image chunks told imageAfter
  number_of_lem : number ≡ number_of told
  line_of_lem : line ≡ line_of told

on_states : (image_size : ℕ) {state work image imageAfter : List ℕ} {chunks : List (List ℕ)} {number line : ℕ} (session : Session) → Carries image_size (state_of state) work session → is_state state ≡ true → FitsAll session chunks → length work ≡ work_size image_size → length image ≡ image_size
    → BytesRun image_size state work image chunks number line imageAfter → OnStates image_size state work image chunks number line imageAfter
on_states image_size session c s f w i (ends e) =
    let x = e.ends w i s in
    record { told = x.answer.told; run = runs.ends x.call; number_of_lem = x.given.number_of_lem; line_of_lem = x.given.line_of_lem }
on_states image_size {chunks = d ∷ ds} session c s f w i (feeds {stateAfter = after} {workAfter = worked} e r) =
    let x = e.feeds w i s in
    let left = x.given in
    let fits = fits_one image_size session d ds f in
    let taken = (x.call.feeds w i session c fits.0).carries in
    let next = is_state_lem after x.answer.state left.size left.bytes left.state (in-ranges image_size x.answer.state worked (after_chunk image_size session d) taken) in
    let rest = on_states image_size (after_chunk image_size session d) (rw left.state taken) next fits.1 (x.call.size ∙ w) i r in
    record { told = rest.told; run = runs.feeds x.call (rw left.state at rest.run); number_of_lem = rest.number_of_lem; line_of_lem = rest.line_of_lem }

as_read_lem : (image_size : ℕ) (image imageAfter : List ℕ) (number line : ℕ) (reading : Reading) (t : Answered) → Tells t (told reading) → number ≡ number_of t → line ≡ line_of t → imageAfter ≡ image_of_reading image_size image reading → ◌≡◌ {A = Result} (record { number = number; line = line; image = imageAfter }) (result_of image_size image reading)
as_read_lem image_size image imageAfter number line (good ds) t e n l m = rw (n, l, m, e)
as_read_lem image_size image imageAfter number line (refused x y) (std.Ok t) e n l m = absurd e
as_read_lem image_size image imageAfter number line (refused x y) (std.Err (Buffer r)) e n l m = absurd e
as_read_lem image_size image imageAfter number line (refused x y) (std.Err (Fault f)) e n l m = rw (n, l, m, e.0, e.1)

pub bytes_run_as_whole : BytesRunAsWhole
unfolding read_into
bytes_run_as_whole image_size before state work image imageAfter chunks r number line start b w i h run =
    let new = start.new b in
    let x = on_states image_size (fed []) (new.2 work) new.1 (omega arith) w i run in
    let q = run_as_whole image_size (state_of state) work image imageAfter chunks x.told (new.2 work) w i h x.run in
    rw (eq-eqb (length image) image_size i) (as_read_lem image_size image imageAfter number line (read_of image_size (joined chunks)) x.told q.0 x.number_of_lem x.line_of_lem q.1)
