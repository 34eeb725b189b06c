-- Document 02, Q-13, on numbers and byte buffers: what the calls for C answer. include/em73862.h and include/em73p982.h declare them.
use Rattle.std.specs.Prelude.{ℕ, Result, Ok, Err, ◌≡◌, List}
use Rattle.numbers.specs.declared.Refusal.{Refusal}
use Rattle.device.specs.declared.Device.{Device}
use Rattle.compare_lines.specs.declared.Compared.{Compared}
use Rattle.compare_lines.specs.declared.Compared.TheVariants.{Same, Differs}
use Rattle.compare_listing.specs.Compared.{compared_of, number_of}

-- the line that is named; 0 where none is
abbrev pub line_of : Result Compared Refusal → ℕ
line_of (Ok Same) = 0
line_of (Ok (Differs line field)) = line
line_of (Err refusal) = 0

-- the field that is named; 0 where none is
abbrev pub field_in : Result Compared Refusal → ℕ
field_in (Ok Same) = 0
field_in (Ok (Differs line field)) = field
field_in (Err refusal) = 0

-- the refusal's number, or 0, and the line and the field
pub record CompareCall (d : Device) (image script listing : List ℕ) (n l f : ℕ) : Type 0 where
  pub number : n ≡ number_of (compared_of d image script listing)
  pub line : l ≡ line_of (compared_of d image script listing)
  pub field : f ≡ field_in (compared_of d image script listing)
