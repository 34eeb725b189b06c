-- What the bounder says of an answer, and a line of its path, as characters. Sentences in quotation marks are of docs/PROGRAMS.md.
use Rattle.std.specs.Prelude.{ℕ, ◌-◌, List, [], ◌∷◌, ◌++◌, length, Result, Ok, Err}
use Rattle.numbers.specs.ComesBack.{image_of_another_size, record_outside_the_ranges, address_over_8191, excluded_instruction_reachable, repetition_reachable, path_buffer_too_short, recursion_reachable, bound_over_65535}
use Rattle.device.specs.declared.Device.{Device}
use Rattle.sheet.specs.Reading.{Read, read_at, cycles_of}
use Rattle.text.specs.Digits.{characters, hex, decimal, blanks}
use Rattle.text.specs.Refusal.{refused_text}
use Rattle.notation.specs.Names.{source_name}
use Rattle.text_lister.specs.Listing.{columns_of}
use Rattle.routines_bound.specs.declared.Greatest.{Greatest}
use Rattle.routines_bound.specs.declared.Unbounded.{Unbounded}
use Rattle.bound.specs.declared.Refused.{Refused}

-- what comes with a refusal
abbrev pub refused_at : ℕ → ℕ → List ℕ
refused_at n address = refused_text n ++ (characters " " ++ hex 4 address)

abbrev pub refused_bytes : ℕ → ℕ → List ℕ
refused_bytes n bytes = refused_text n ++ (characters " " ++ decimal bytes)

-- N, and the greatest depth of calls
abbrev pub cycles_text : ℕ → List ℕ
cycles_text cycles = characters "N " ++ decimal cycles

abbrev pub depth_text : ℕ → List ℕ
depth_text depth = characters "depth " ++ decimal depth

-- an address in four hexadecimal digits, bytes and cycles in decimal; where there is a bound, its depth stands beside it or on a line of its own
abbrev pub summary_of : Result Greatest Refused → List ℕ
summary_of (Err Refused.ImageSize) = refused_text image_of_another_size
summary_of (Err Refused.P3Range) = refused_text record_outside_the_ranges
summary_of (Err Refused.AddressRange) = refused_text address_over_8191
summary_of (Err (Refused.Unbounded (Unbounded.Recursion entry))) = refused_at recursion_reachable entry
summary_of (Err (Refused.Unbounded (Unbounded.Excluded address))) = refused_at excluded_instruction_reachable address
summary_of (Err (Refused.Unbounded (Unbounded.Repeats address))) = refused_at repetition_reachable address
summary_of (Err (Refused.Unbounded Unbounded.TooLarge)) = refused_text bound_over_65535
summary_of (Err (Refused.Unbounded (Unbounded.Short bytes))) = refused_bytes path_buffer_too_short bytes
summary_of (Ok g) = cycles_text g.cycles

-- on a line of the entries the depth stands beside N
abbrev pub answer_text : Result Greatest Refused → List ℕ
answer_text (Ok g) = cycles_text g.cycles ++ (characters " " ++ depth_text g.depth)
answer_text (Err refused) = summary_of (Err refused)

-- "a line each: the entry's address, its source, the answer"
abbrev pub entry_line_of : Device → ℕ → ℕ → Result Greatest Refused → List ℕ
entry_line_of d at latch answer = hex 4 at ++ (characters " " ++ (source_name d latch ++ (characters " " ++ (answer_text answer ++ (10 ∷ [])))))

-- as the lister's line, then a blank and what is counted, right-aligned in five characters: along N's path the total of cycles so far, along depth's "the number of calls open after the row"
abbrev pub right_aligned : ℕ → List ℕ → List ℕ
right_aligned n text = blanks (n - length text) ++ text

abbrev pub path_line_of : (ℕ → ℕ) → ℕ → ℕ → List ℕ
path_line_of rom at counted = columns_of rom at ++ (characters " " ++ (right_aligned 5 (decimal counted) ++ (10 ∷ [])))

-- the cycles of the row at an address, 0 where there is none
abbrev pub cycles_read : Read → ℕ
cycles_read (Ok i) = cycles_of i.row
cycles_read (Err why) = 0

abbrev pub cycles_at : (ℕ → ℕ) → ℕ → ℕ
cycles_at rom at = cycles_read (read_at rom at)
