-- What the call bound answers by the table's numbers. What is the right answer, and what becomes of the buffers, bound_calls/specs/CallAnswer.antt says.
use Rattle.std.specs.Prelude.{[], ◌∷◌, Result, Ok, Err}
use Rattle.numbers.specs.ComesBack.{Paper, answered, refused, refused_with, image_of_another_size, record_outside_the_ranges, address_over_8191, excluded_instruction_reachable, repetition_reachable, path_buffer_too_short, recursion_reachable, bound_over_65535}
use Rattle.routines_bound.specs.declared.Greatest.{Greatest}
use Rattle.routines_bound.specs.declared.Unbounded.{Unbounded}
use Rattle.bound.specs.declared.Refused.{Refused}

-- the paper's number and values for each case of the answer
abbrev pub paper_of : Result Greatest Refused → Paper
paper_of (Ok g) = answered (g.cycles ∷ g.depth ∷ [])
paper_of (Err Refused.ImageSize) = refused image_of_another_size
paper_of (Err Refused.P3Range) = refused record_outside_the_ranges
paper_of (Err Refused.AddressRange) = refused address_over_8191
paper_of (Err (Refused.Unbounded (Unbounded.Recursion entry))) = refused_with recursion_reachable entry
paper_of (Err (Refused.Unbounded (Unbounded.Excluded address))) = refused_with excluded_instruction_reachable address
paper_of (Err (Refused.Unbounded (Unbounded.Repeats address))) = refused_with repetition_reachable address
paper_of (Err (Refused.Unbounded Unbounded.TooLarge)) = refused bound_over_65535
paper_of (Err (Refused.Unbounded (Unbounded.Short bytes))) = refused_with path_buffer_too_short bytes

-- what is found from an address of the image is answered as it is
abbrev pub answer_of : Result Greatest Unbounded → Result Greatest Refused
answer_of (Ok g) = Ok g
answer_of (Err u) = Err (Refused.Unbounded u)
