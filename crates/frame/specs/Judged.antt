-- How frames are judged: frames that have the characters of the one before, and those between two places.
use Rattle.std.specs.Prelude.{ℕ, ◌+◌, ◌-◌, ◌<◌, ◌≤◌, Bool, true, List, ◌≡◌, get_or, drop}
use Rattle.laws.specs.Choice.{both}
use Rattle.device.specs.Device.{frame_size}
use Rattle.device.specs.declared.Device.{Device}
use Rattle.frame.specs.Frame.{is_frame_at, are_frames}

abbrev pub byte : List ℕ → ℕ → ℕ
byte s i = get_or s i 0

-- r only where k bytes from at + n on are those from at on
pub record Again (s : List ℕ) (n at k : ℕ) (r : Bool) : Type 0 where
  pub same : r ≡ true → (i : ℕ) → i < k → byte s (at + i + n) ≡ byte s (at + i)

-- the characters of the place before, where there is one, are a frame
pub record AfterFrame (d : Device) (s : List ℕ) (at : ℕ) : Type 0 where
  pub shown : frame_size d ≤ at → is_frame_at d s (at - frame_size d) ≡ true

-- whether the characters from one place to another are frames; then the last of them are one
pub record Between (d : Device) (s : List ℕ) (from to : ℕ) (r : Bool) : Type 0 where
  pub judged : are_frames d (drop from s) ≡ both r (are_frames d (drop to s))
  pub last : r ≡ true → from < to → is_frame_at d s (to - frame_size d) ≡ true
