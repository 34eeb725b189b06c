-- Document 02, Q-10: "must hold only one line between chunks". The line that is begun, as it is held.
use Rattle.std.specs.Prelude.{ℕ, suc, ◌<◌, ◌≤◌, ◌≡◌, List, length, take, false, Result, Ok, Option, Some, None}
use Rattle.std.specs.Borrow.{Bor}
use Rattle.hex_reader.specs.Progress.{Progress, after_line}
use Rattle.hex_reader.specs.Reached.{Reached, is_stopped}
use Rattle.hex_reader.specs.declared.fault.HexFault.{HexFault}
use Rattle.hex_reader.specs.declared.progress.Stage.{Stage}
use Rattle.hex_chunks.specs.declared.held.HeldLine.{HeldLine}

-- no record's line has more characters, the CR of its ending among them
abbrev pub held_size : ℕ
held_size = 522

-- a line of so many characters is held; of a longer one it is known that it is longer, and one more than the longest stands for its characters
pub record Kept (held : HeldLine) (line : List ℕ) : Type 0 where
  pub short : held.count ≤ held_size → (take held.count held.chars ≡ line) × (held.count ≡ length line)
  pub long : held_size < held.count → held_size < length line
  pub most : held.count ≤ suc held_size

-- a line's characters; none are those of a line that is too long, and has so many at least
abbrev pub Characters : ℕ → Option (Bor (List ℕ)) → List ℕ → Type 0
Characters least (Some characters) line = characters.now ≡ line
Characters least None line = least ≤ length line

-- line n is complete, whatever was reached before it; a line that stops nothing has eleven characters at least
pub record Completes (image_size : ℕ) (line : List ℕ) (n : ℕ) (stage : Stage) (before after : List ℕ) (r : Result Stage HexFault) : Type 0 where
  pub size : length after ≡ length before
  pub reached : (p : Progress) → Reached image_size (Ok stage) before p → Reached image_size r after (after_line image_size p n line)
  pub long : (p : Progress) → Reached image_size (Ok stage) before p → is_stopped r ≡ false → 11 ≤ length line
