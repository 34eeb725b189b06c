-- What is promised of a data record that comes after others: its refusal, or that the work buffer holds it too.
use Rattle.std.specs.Prelude.{ℕ, ◌≡◌, List, ◌∷◌, length}
use Rattle.hex_reader.specs.Fault.{Taken, number_of}
use Rattle.hex_reader.specs.Record.{bytes_of}
use Rattle.hex_reader.specs.Given.{Given, refusal_of}
use Rattle.hex_reader.specs.Work.{Holds}

-- the record whose bytes are written in digits
abbrev pub record_of : ℕ → List ℕ → Given
record_of address digits = record { address = address; bytes = bytes_of digits }

-- whatever the records before it were
pub record Takes (image_size : ℕ) (before after : List ℕ) (d : Given) (r : Taken) : Type 0 where
  pub size : length after ≡ length before
  pub answer : (ds : List Given) → Holds image_size before ds → number_of r ≡ refusal_of image_size ds d
  pub held : (ds : List Given) → Holds image_size before ds → number_of r ≡ 0 → Holds image_size after (d ∷ ds)
