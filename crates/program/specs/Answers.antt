-- What the system answered to a read and to a write, and how a program ends by it (docs/PROGRAMS.md, "What cannot be read or written").
use Rattle.std.specs.Prelude.{ℕ, Bool, true, false, Result, Ok, Err}
use Rattle.program.specs.declared.streams.Failure.{Failure}
use Rattle.program.specs.declared.streams.Failure.TheVariants.{CannotRead, CannotWrite}

-- "A read that fails is never the end of the input": the end is a read that gives no byte and does not fail
abbrev pub got_of : {E : Type 0} → Result ℕ E → Result ℕ Failure
got_of (Ok n) = Ok n
got_of (Err e) = Err CannotRead

-- "A program that cannot write ends, and says so; one that cannot read ends after what it had to write"
abbrev pub ending_of : Bool → Bool → Result Unit Failure
ending_of failed false = Err CannotWrite
ending_of true true = Err CannotRead
ending_of false true = Ok tt
