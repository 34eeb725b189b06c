-- What the calls promise: the state and the work buffer carry the session, and the answer is the session's. image_size is the size of the device's image.
use Rattle.std.specs.Prelude.{ℕ, suc, ◌+◌, ◌*◌, ◌^◌, ◌<◌, ◌≤◌, ◌≡◌, Bool, true, false, List, [], length, Result, Ok, Err}
use Rattle.numbers.specs.Numbered.{refusal_number}
use Rattle.numbers.specs.declared.Refusal.{Refusal}
use Rattle.numbers.specs.declared.Refusal.TheVariants.{ImageOfAnotherSize, WorkBufferIsNot9216Bytes}
use Rattle.hex_reader.specs.Work.{work_size, Holds}
use Rattle.hex_reader.specs.Progress.{going, Reading, good, refused, after_lines}
use Rattle.hex_reader.specs.Fault.{Taken}
use Rattle.hex_reader.specs.declared.fault.HexFault.{HexFault}
use Rattle.hex_reader.specs.declared.fault.HexRefusal.{HexRefusal}
use Rattle.hex_reader.specs.declared.fault.HexRefusal.TheVariants.{Buffer, Fault}
use Rattle.hex_reader.specs.Reached.{Reached, IsFault, is_stopped}
use Rattle.hex_reader.specs.declared.progress.Stage.{Stage}
use Rattle.hex_reader.specs.declared.progress.Stage.TheVariants.{Going}
use Rattle.hex_chunks.specs.Kept.{held_size, Kept}
use Rattle.hex_chunks.specs.Cut.{Session, fed, told, completed, begun_after, after_chunk, after_end, image_at_end}
use Rattle.hex_chunks.specs.declared.HexChunks.{HexChunks}
use Rattle.hex_chunks.specs.declared.held.HeldLine.{HeldLine}
use Rattle.hex_chunks.specs.declared.Told.{Told}
use Rattle.hex_chunks.specs.declared.Told.TheVariants.{More, Good}
use Rattle.hex_chunks.specs.declared.Fed.{Fed}

-- what was told for good is one of the faults
abbrev pub TellsFault : Result Stage HexFault → Type 0
TellsFault (Ok stage) = Unit
TellsFault (Err first) = IsFault (refusal_number first.refusal)

-- the ranges of a state: the characters held of a line, one more than the longest standing for a longer one; lines counted from 1; the fault's number
pub record InRanges (s : HexChunks) : Type 0 where
  pub held : s.held.count ≤ suc held_size
  pub lines : 1 ≤ s.line
  pub fault : TellsFault s.stage

-- the lines so far and the one that is begun; each line before it has eleven characters at least
pub record Along (image_size : ℕ) (text : List ℕ) (held : HeldLine) (n : ℕ) (stage : Result Stage HexFault) (work : List ℕ) : Type 0 where
  pub kept : Kept held (begun_after [] text)
  pub number : n ≡ 1 + length (completed [] text)
  pub reached : Reached image_size stage work (after_lines image_size (going []) 1 (completed [] text))
  pub on : is_stopped stage ≡ false
  pub counted : 11 * n + length (begun_after [] text) ≤ length text + 11

-- the work buffer is in use, or holds no record yet
abbrev pub Readied : ℕ → Bool → List ℕ → List ℕ → Type 0
Readied image_size true before after = after ≡ before
Readied image_size false before after = Holds image_size after []

-- a chunk after a text: what is reached with its lines, and where nothing stopped it the line that is begun
pub record Chunked (image_size : ℕ) (text : List ℕ) (r : HexChunks) (work : List ℕ) : Type 0 where
  pub reached : Reached image_size r.stage work (after_lines image_size (going []) 1 (completed [] text))
  pub along : is_stopped r.stage ≡ false → Along image_size text r.held r.line r.stage work
  pub begun : r.begun ≡ true
  pub over : r.over ≡ false
  pub held : r.held.count ≤ suc held_size
  pub lines : 1 ≤ r.line

-- before the first call the work buffer may have any contents
abbrev pub CarriesText : ℕ → HexChunks → List ℕ → List ℕ → Bool → Type 0
CarriesText image_size s work text true = Along image_size text s.held s.line s.stage work
CarriesText image_size s work text false = (text ≡ []) × (s.held.count ≡ 0) × (s.line ≡ 1) × (s.stage ≡ Ok Going)

-- the lines came to a fault
abbrev pub StoppedAt : Result Stage HexFault → ℕ → ℕ → Type 0
StoppedAt (Ok stage) number line = ⊥
StoppedAt (Err first) number line = (refusal_number first.refusal ≡ number) × (first.line ≡ line)

-- a session of a text that fits, as each text of Q-3's reader does, is carried; or what was told for good
abbrev pub Carries : ℕ → HexChunks → List ℕ → Session → Type 0
Carries image_size s work (fed text) = (length text < 2 ^ 64) × (s.over ≡ false) × CarriesText image_size s work text s.begun
Carries image_size s work (told (good ds)) = (s.over ≡ true) × (is_stopped s.stage ≡ false) × InRanges s
Carries image_size s work (told (refused number line)) = StoppedAt s.stage number line × InRanges s

-- what a state tells
abbrev pub more_or_good : Bool → Told
more_or_good true = Good
more_or_good false = More

abbrev pub told_of : Bool → Result Stage HexFault → Result Told HexRefusal
told_of over (Ok stage) = Ok (more_or_good over)
told_of over (Err first) = Err (Fault first)

-- a fault is told
abbrev pub TellsFaultAt : Result Told HexRefusal → ℕ → ℕ → Type 0
TellsFaultAt (Ok t) number line = ⊥
TellsFaultAt (Err (Buffer refusal)) number line = ⊥
TellsFaultAt (Err (Fault first)) number line = (refusal_number first.refusal ≡ number) × (first.line ≡ line)

-- the session's answer
abbrev pub Tells : Result Told HexRefusal → Session → Type 0
Tells t (fed text) = t ≡ Ok More
Tells t (told (good ds)) = t ≡ Ok Good
Tells t (told (refused number line)) = TellsFaultAt t number line

-- the text with the chunk fits
abbrev pub Fits : Session → List ℕ → Type 0
Fits (fed text) chunk = length text + length chunk < 2 ^ 64
Fits (told r) chunk = Unit

-- "47 work buffer not 9,216 bytes, tested first, then 1 for the image buffer", by the device's sizes
pub record Sized (image_size : ℕ) (work image : List ℕ) (r : Taken) : Type 0 where
  pub short_work : (length work ≡ work_size image_size → ⊥) → r ≡ Err WorkBufferIsNot9216Bytes
  pub short_image : length work ≡ work_size image_size → (length image ≡ image_size → ⊥) → r ≡ Err ImageOfAnotherSize
  pub right : r ≡ Ok tt → (length work ≡ work_size image_size) × (length image ≡ image_size)
  pub both_right : length work ≡ work_size image_size → length image ≡ image_size → r ≡ Ok tt

-- the answer about a buffer that is refused
abbrev pub refused_buffer : HexChunks → Refusal → Fed
refused_buffer s refusal = record { state = s; told = Err (Buffer refusal) }

-- such a refusal leaves the state and the buffers
pub record Stays (refusal : Refusal) (s : HexChunks) (work workAfter image imageAfter : List ℕ) (r : Fed) : Type 0 where
  pub answer : r.told ≡ Err (Buffer refusal)
  pub state_kept : r.state ≡ s
  pub work_kept : workAfter ≡ work
  pub image_kept : imageAfter ≡ image

-- a call takes the session on, and tells its answer
pub record TakesTo (image_size : ℕ) (session : Session) (work : List ℕ) (r : Fed) : Type 0 where
  pub carries : Carries image_size r.state work session
  pub tells : Tells r.told session

-- "later calls repeat that answer and change nothing"
pub record Repeats (s : HexChunks) (work workAfter image imageAfter : List ℕ) (r : Fed) : Type 0 where
  pub state_kept : r.state ≡ s
  pub work_kept : workAfter ≡ work
  pub image_kept : imageAfter ≡ image

-- a chunk is fed. The image buffer is lent to be read only
pub record FeedCall (image_size : ℕ) (s : HexChunks) (chunk work workAfter image : List ℕ) (r : Fed) : Type 0 where
  pub size : length workAfter ≡ length work
  pub short_work : (length work ≡ work_size image_size → ⊥) → Stays WorkBufferIsNot9216Bytes s work workAfter image image r
  pub short_image : length work ≡ work_size image_size → (length image ≡ image_size → ⊥) → Stays ImageOfAnotherSize s work workAfter image image r
  pub feeds : length work ≡ work_size image_size → length image ≡ image_size → (session : Session) → Carries image_size s work session → Fits session chunk → TakesTo image_size (after_chunk image_size session chunk) workAfter r
  pub repeats : length work ≡ work_size image_size → length image ≡ image_size → (t : Reading) → Carries image_size s work (told t) → Repeats s work workAfter image image r

-- the end is declared
pub record EndCall (image_size : ℕ) (s : HexChunks) (work workAfter image imageAfter : List ℕ) (r : Fed) : Type 0 where
  pub short_work : (length work ≡ work_size image_size → ⊥) → Stays WorkBufferIsNot9216Bytes s work workAfter image imageAfter r
  pub short_image : length work ≡ work_size image_size → (length image ≡ image_size → ⊥) → Stays ImageOfAnotherSize s work workAfter image imageAfter r
  pub ends : length work ≡ work_size image_size → length image ≡ image_size → (session : Session) → Carries image_size s work session → TakesTo image_size (after_end image_size session) workAfter r
  pub written : length work ≡ work_size image_size → length image ≡ image_size → (session : Session) → Carries image_size s work session → imageAfter ≡ image_at_end image_size session image
  pub repeats : length work ≡ work_size image_size → length image ≡ image_size → (t : Reading) → Carries image_size s work (told t) → Repeats s work workAfter image imageAfter r
