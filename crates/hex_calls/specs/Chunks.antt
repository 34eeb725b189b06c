-- Document 02, Q-10, on numbers and byte buffers: the calls of a reader that is fed chunks, on a state in bytes. image_size is the size of the device's image.
use Rattle.std.specs.Prelude.{ℕ, ◌^◌, ◌<◌, ◌≡◌, true, List, [], ◌∷◌, length, Result, Ok, Err}
use Rattle.numbers.specs.ComesBack.{image_of_another_size, record_outside_the_ranges, work_buffer_is_not_9216_bytes}
use Rattle.hex_reader.specs.Work.{work_size}
use Rattle.hex_reader.specs.Fault.{number_of_refusal, line_of_refusal}
use Rattle.hex_reader.specs.declared.fault.HexRefusal.{HexRefusal}
use Rattle.hex_chunks.specs.Cut.{fed, joined}
use Rattle.hex_chunks.specs.Carries.{Carries, FeedCall, EndCall}
use Rattle.hex_chunks.specs.declared.Told.{Told}
use Rattle.hex_chunks.specs.declared.Told.TheVariants.{More, Good}
use Rattle.hex_chunks.specs.declared.Fed.{Fed}
use Rattle.hex_calls.specs.Calls.{ReadCall}
use Rattle.hex_calls.specs.Layout.{packed, state_of, state_size, is_state}

-- the number of an answer: nothing is told yet, the whole text is good, or the refusal
abbrev pub number_of : Result Told HexRefusal → ℕ
number_of (Ok More) = 255
number_of (Ok Good) = 0
number_of (Err refusal) = number_of_refusal refusal

abbrev pub line_of : Result Told HexRefusal → ℕ
line_of (Ok t) = 0
line_of (Err refusal) = line_of_refusal refusal

-- a new state, or a buffer that is no state
pub record StartCall (image_size : ℕ) (before after : List ℕ) (r : ℕ) : Type 0 where
  pub no_state : (length before ≡ state_size → ⊥) → (r ≡ record_outside_the_ranges) × (after ≡ before)
  pub new : length before ≡ state_size → (r ≡ 0) × (is_state after ≡ true) × ((work : List ℕ) → Carries image_size (state_of after) work (fed []))

-- a refusal of a buffer: its number, no line, and everything as it was
pub record Unchanged (refusal : ℕ) (number line : ℕ) (state stateAfter work workAfter image imageAfter : List ℕ) : Type 0 where
  pub answer : number ≡ refusal
  pub no_line : line ≡ 0
  pub state_kept : stateAfter ≡ state
  pub work_kept : workAfter ≡ work
  pub image_kept : imageAfter ≡ image

-- the answer and the state's bytes are those of an answer of the call on states
pub record Given (r : Fed) (number line : ℕ) (stateAfter : List ℕ) : Type 0 where
  pub number_of_lem : number ≡ number_of r.told
  pub line_of_lem : line ≡ line_of r.told
  pub size : length stateAfter ≡ state_size
  pub bytes : stateAfter ≡ packed r.state
  pub state : state_of stateAfter ≡ r.state

pub record FedAs (image_size : ℕ) (state stateAfter chunk work workAfter image : List ℕ) (number line : ℕ) : Type 0 where
  pub answer : Fed
  pub call : FeedCall image_size (state_of state) chunk work workAfter image answer
  pub given : Given answer number line stateAfter

pub record EndedAs (image_size : ℕ) (state stateAfter work workAfter image imageAfter : List ℕ) (number line : ℕ) : Type 0 where
  pub answer : Fed
  pub call : EndCall image_size (state_of state) work workAfter image imageAfter answer
  pub given : Given answer number line stateAfter

-- "47 work buffer not 9,216 bytes, tested first, then 1 for the image buffer", by the device's sizes, then 2 for bytes that are no state's
pub record FeedBytes (image_size : ℕ) (state stateAfter chunk work workAfter image : List ℕ) (number line : ℕ) : Type 0 where
  pub short_work : (length work ≡ work_size image_size → ⊥) → Unchanged work_buffer_is_not_9216_bytes number line state stateAfter work workAfter image image
  pub short_image : length work ≡ work_size image_size → (length image ≡ image_size → ⊥) → Unchanged image_of_another_size number line state stateAfter work workAfter image image
  pub no_state : length work ≡ work_size image_size → length image ≡ image_size → (is_state state ≡ true → ⊥) → Unchanged record_outside_the_ranges number line state stateAfter work workAfter image image
  pub feeds : length work ≡ work_size image_size → length image ≡ image_size → is_state state ≡ true → FedAs image_size state stateAfter chunk work workAfter image number line

pub record EndBytes (image_size : ℕ) (state stateAfter work workAfter image imageAfter : List ℕ) (number line : ℕ) : Type 0 where
  pub short_work : (length work ≡ work_size image_size → ⊥) → Unchanged work_buffer_is_not_9216_bytes number line state stateAfter work workAfter image imageAfter
  pub short_image : length work ≡ work_size image_size → (length image ≡ image_size → ⊥) → Unchanged image_of_another_size number line state stateAfter work workAfter image imageAfter
  pub no_state : length work ≡ work_size image_size → length image ≡ image_size → (is_state state ≡ true → ⊥) → Unchanged record_outside_the_ranges number line state stateAfter work workAfter image imageAfter
  pub ends : length work ≡ work_size image_size → length image ≡ image_size → is_state state ≡ true → EndedAs image_size state stateAfter work workAfter image imageAfter number line

-- chunks are fed one after the other, each with the bytes that the call before left, and then the end is declared. Of the calls nothing is known but that each keeps its promise
pub data BytesRun (image_size : ℕ) : List ℕ → List ℕ → List ℕ → List (List ℕ) → ℕ → ℕ → List ℕ → Type 0 where
  ends : {state stateAfter work workAfter image imageAfter : List ℕ} {number line : ℕ} → EndBytes image_size state stateAfter work workAfter image imageAfter number line → BytesRun image_size state work image [] number line imageAfter
  feeds : {state stateAfter chunk work workAfter image imageAfter : List ℕ} {chunks : List (List ℕ)} {n l number line : ℕ} → FeedBytes image_size state stateAfter chunk work workAfter image n l → BytesRun image_size stateAfter workAfter image chunks number line imageAfter → BytesRun image_size state work image (chunk ∷ chunks) number line imageAfter

-- "must end with the image, refusal and line number of Q-3's reader on the whole text, for every cutting", of the calls that a client links: from a new state the last number, its line and the image buffer are those of the device's read call on the whole text
abbrev pub BytesRunAsWhole : Type 0
BytesRunAsWhole =
    (image_size : ℕ) (before state work image imageAfter : List ℕ) (chunks : List (List ℕ)) (r number line : ℕ) → StartCall image_size before state r → length before ≡ state_size → length work ≡ work_size image_size → length image ≡ image_size
    → length (joined chunks) < 2 ^ 64 → BytesRun image_size state work image chunks number line imageAfter → ReadCall image_size (joined chunks) image number line imageAfter
