-- Document 01, "What comes back": the number of an answer, and the values that come with it. Each call gives, for each case of its own answer, what that is here.
use Rattle.std.specs.Prelude.{ℕ, List, [], ◌∷◌, get_or}

pub record Paper : Type 0 where
  pub number : ℕ
  pub values : List ℕ

-- what comes back with a number: the value at a place of the paper's, and 0 where it has none
abbrev pub value_at : Paper → ℕ → ℕ
value_at p i = get_or p.values i 0

-- 0 is no row of the table: nothing is refused
abbrev pub answered : List ℕ → Paper
answered vs = record { number = 0; values = vs }

-- column "Returned": "nothing else"
abbrev pub refused : ℕ → Paper
refused n = record { number = n; values = [] }

-- a refusal with what the table has under "Returned"
abbrev pub refused_with : ℕ → ℕ → Paper
refused_with n value = record { number = n; values = value ∷ [] }

-- the table's numbers, with its words
abbrev pub image_of_another_size : ℕ
image_of_another_size = 1

abbrev pub record_outside_the_ranges : ℕ
record_outside_the_ranges = 2

abbrev pub no_frame : ℕ
no_frame = 3

abbrev pub more_than_65536_frames : ℕ
more_than_65536_frames = 4

abbrev pub display_buffer_under_40_bytes : ℕ
display_buffer_under_40_bytes = 5

abbrev pub not_to_be_written : ℕ
not_to_be_written = 11

abbrev pub address_over_8191 : ℕ
address_over_8191 = 20

abbrev pub excluded_instruction_reachable : ℕ
excluded_instruction_reachable = 21

abbrev pub repetition_reachable : ℕ
repetition_reachable = 22

abbrev pub path_buffer_too_short : ℕ
path_buffer_too_short = 23

-- Q-9: "24 recursion", "25 N over 65,535"
abbrev pub recursion_reachable : ℕ
recursion_reachable = 24

abbrev pub bound_over_65535 : ℕ
bound_over_65535 = 25

abbrev pub unassigned_code : ℕ
unassigned_code = 30

abbrev pub absent_ram_address : ℕ
absent_ram_address = 31

abbrev pub stack_level : ℕ
stack_level = 32

abbrev pub absent_port : ℕ
absent_port = 33

abbrev pub reserved_value : ℕ
reserved_value = 34

-- Q-8: "Refusals: 35, a stop in a step", of "an instruction whose bytes pass the end of the image"
abbrev pub past_end : ℕ
past_end = 35

-- Q-3: "40 malformed line or end record with bytes"
abbrev pub malformed_line_or_end_with_bytes : ℕ
malformed_line_or_end_with_bytes = 40

-- "41 record sum"
abbrev pub record_sum : ℕ
record_sum = 41

-- "42 record type"
abbrev pub record_type : ℕ
record_type = 42

-- "43 data byte past 1FFFh"
abbrev pub data_byte_past_1_ff_fh : ℕ
data_byte_past_1_ff_fh = 43

-- "44 byte given twice"
abbrev pub byte_given_twice : ℕ
byte_given_twice = 44

-- "45 end record missing .. or any text after it"
abbrev pub end_missing_or_text_after_it : ℕ
end_missing_or_text_after_it = 45

-- "46 output buffer under 22,540 bytes"
abbrev pub output_buffer_under_22540_bytes : ℕ
output_buffer_under_22540_bytes = 46

-- Q-10: "47 work buffer not 9,216 bytes"
abbrev pub work_buffer_is_not_9216_bytes : ℕ
work_buffer_is_not_9216_bytes = 47

-- Q-12: "48 pulses over the limit, 49 TF of zero while tone or random is on"
abbrev pub pulses_over_the_limit : ℕ
pulses_over_the_limit = 48

abbrev pub tf_of_zero_while_on : ℕ
tf_of_zero_while_on = 49
