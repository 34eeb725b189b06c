-- What the runner's functions promise: a line of the script answered, and the whole lines of a part of the script.
use Rattle.std.specs.Prelude.{ℕ, ◌+◌, ◌≤◌, ◌≡◌, false, List, [], ◌++◌, length, drop}
use Rattle.laws.specs.Choice.{pick}
use Rattle.device.specs.declared.Device.{Device}
use Rattle.record.specs.Valid.{Valid}
use Rattle.record.specs.declared.Machine.{Machine}
use Rattle.record.specs.With.{assembled}
use Rattle.text.specs.Script.{lines_of, up_to}
use Rattle.listing.specs.Listing.{Answer, told_over}
use Rattle.listing.specs.declared.Told.{Told}
use Rattle.listing.specs.declared.Fed.{Fed}

-- the text before and after, and RAM after; a line has at most 26 characters
pub record Tells (d : Device) (a : Answer) (before after ram : List ℕ) (r : Told) : Type 0 where
  pub wrote : after ≡ before ++ a.text
  pub short : length after ≤ length before + 26
  pub machine : assembled r.core ram ≡ a.machine
  pub ended : r.ended ≡ a.ends
  pub valid : Valid d a.machine

-- of a part of the script some lines are used: what they print is written, and whatever the script goes on with, the listing is that and then the listing of what is left, from the record after them.
-- What is left has no whole line, where it did not end and there is room for a line
pub record Feeds (d : Device) (rom : ℕ → ℕ → ℕ) (m : Machine) (part before after : List ℕ) (room : ℕ) (ram : List ℕ) (r : Fed) : Type 0 where
  pub text : List ℕ
  pub wrote : after ≡ before ++ text
  pub told : (rest : List ℕ) → told_over d rom m (lines_of (part ++ rest)) ≡ text ++ pick r.ended [] (told_over d rom (assembled r.core ram) (lines_of (drop r.used part ++ rest)))
  pub used : r.used ≤ length part
  pub whole : r.ended ≡ false → length after + 26 ≤ room → up_to (drop r.used part) ≡ length (drop r.used part)
  pub valid : Valid d (assembled r.core ram)
