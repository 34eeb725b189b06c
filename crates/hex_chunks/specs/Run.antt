-- Document 02, Q-10: "A reader that is fed chunks must end with the image, refusal and line number of Q-3's reader on the whole text, for every cutting".
use Rattle.std.specs.Prelude.{ℕ, ◌^◌, ◌<◌, ◌≡◌, List, [], ◌∷◌, length, Result}
use Rattle.hex_reader.specs.Work.{work_size}
use Rattle.hex_reader.specs.Progress.{read_of}
use Rattle.hex_chunks.specs.Cut.{fed, told, image_of_reading, joined}
use Rattle.hex_chunks.specs.Carries.{Carries, Tells, FeedCall, EndCall}
use Rattle.hex_reader.specs.declared.fault.HexRefusal.{HexRefusal}
use Rattle.hex_chunks.specs.declared.HexChunks.{HexChunks}
use Rattle.hex_chunks.specs.declared.Told.{Told}
use Rattle.hex_chunks.specs.declared.Fed.{Fed}

-- chunks are fed one after the other, each with the state and the work buffer as the call before left them, and then the end is declared. Of the calls nothing is known but that each keeps its promise
pub data Run (image_size : ℕ) : HexChunks → List ℕ → List ℕ → List (List ℕ) → Result Told HexRefusal → List ℕ → Type 0 where
  ends : {s : HexChunks} {work workAfter image imageAfter : List ℕ} {r : Fed} → EndCall image_size s work workAfter image imageAfter r → Run image_size s work image [] r.told imageAfter
  feeds : {s : HexChunks} {chunk work workAfter image imageAfter : List ℕ} {chunks : List (List ℕ)} {r : Fed} {t : Result Told HexRefusal} → FeedCall image_size s chunk work workAfter image r → Run image_size r.state workAfter image chunks t imageAfter → Run image_size s work image (chunk ∷ chunks) t imageAfter

-- from a new state: the last answer is that of the whole text, and so is the image buffer
abbrev pub RunAsWhole : Type 0
RunAsWhole =
    (image_size : ℕ) (s : HexChunks) (work image imageAfter : List ℕ) (chunks : List (List ℕ)) (t : Result Told HexRefusal) → Carries image_size s work (fed []) → length work ≡ work_size image_size → length image ≡ image_size
    → length (joined chunks) < 2 ^ 64 → Run image_size s work image chunks t imageAfter → Tells t (told (read_of image_size (joined chunks))) × (imageAfter ≡ image_of_reading image_size image (read_of image_size (joined chunks)))
