-- Document 02, Q-10: a text that comes in chunks, and what is told of it. The lines, their faults and the image are Q-3's, for the size of the device's image.
use Rattle.std.specs.Prelude.{ℕ, ◌≡◌, List, [], ◌∷◌, ◌++◌}
use Rattle.laws.specs.Choice.{pick}
use Rattle.text.specs.Script.{is_lf}
use Rattle.hex_reader.specs.Lines.{without_cr}
use Rattle.hex_reader.specs.Given.{image_of}
use Rattle.hex_reader.specs.Progress.{Progress, going, ended, stopped, Reading, good, refused, after_lines, read_of}

-- the lines that a text completes with their LF, where a line was begun before it
abbrev pub completed : List ℕ → List ℕ → List (List ℕ)
completed begun [] = []
completed begun (c ∷ cs) = pick (is_lf c) (without_cr begun ∷ completed [] cs) (completed (begun ++ (c ∷ [])) cs)

-- the line that is begun after it
abbrev pub begun_after : List ℕ → List ℕ → List ℕ
begun_after begun [] = begun
begun_after begun (c ∷ cs) = pick (is_lf c) (begun_after [] cs) (begun_after (begun ++ (c ∷ [])) cs)

-- a session: the text so far, of which nothing was told; or what was told for good
pub data Session : Type 0 where
  fed : List ℕ → Session
  told : Reading → Session

-- "A fault is answered by the call that completes its line."
abbrev pub by_progress : List ℕ → Progress → Session
by_progress text (going ds) = fed text
by_progress text (ended ds) = fed text
by_progress text (stopped number line) = told (refused number line)

unfoldable pub fed_to : ℕ → List ℕ → Session
fed_to image_size text = by_progress text (after_lines image_size (going []) 1 (completed [] text))

-- the end is declared: what is told is what Q-3's reader says of the whole text
abbrev pub after_end : ℕ → Session → Session
after_end image_size (fed text) = told (read_of image_size text)
after_end image_size (told r) = told r

-- a chunk is fed; "Once the end is declared or one of 40 to 45 given, later calls repeat that answer"
abbrev pub after_chunk : ℕ → Session → List ℕ → Session
after_chunk image_size (fed text) chunk = fed_to image_size (text ++ chunk)
after_chunk image_size (told r) chunk = told r

-- "The image buffer is written only when the end is declared and the whole text is good."
abbrev pub image_of_reading : ℕ → List ℕ → Reading → List ℕ
image_of_reading image_size before (good ds) = image_of image_size ds
image_of_reading image_size before (refused number line) = before

abbrev pub image_at_end : ℕ → Session → List ℕ → List ℕ
image_at_end image_size (fed text) before = image_of_reading image_size before (read_of image_size text)
image_at_end image_size (told r) before = before

-- chunks fed one after the other
abbrev pub after_chunks : ℕ → Session → List (List ℕ) → Session
after_chunks image_size s [] = s
after_chunks image_size s (c ∷ cs) = after_chunks image_size (after_chunk image_size s c) cs

abbrev pub joined : List (List ℕ) → List ℕ
joined [] = []
joined (c ∷ cs) = c ++ joined cs

-- "must end with the image, refusal and line number of Q-3's reader on the whole text, for every cutting"
abbrev pub AnyCutting : Type 0
AnyCutting = (image_size : ℕ) (chunks : List (List ℕ)) → after_end image_size (after_chunks image_size (fed []) chunks) ≡ told (read_of image_size (joined chunks))
