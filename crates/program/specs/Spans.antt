-- What a read behind the beginning of a line leaves (docs/PROGRAMS.md, "What cannot be read or written").
use Rattle.std.specs.Prelude.{ℕ, Bool, Result, Ok, Err, eqb}
use Rattle.program.specs.declared.streams.Failure.{Failure}

-- "A read that fails is never the end of the input": what was kept is then no last line
abbrev pub is_last : Result ℕ Failure → Result Bool Failure
is_last (Ok n) = Ok (eqb n 0)
is_last (Err e) = Err e
