-- The table's number of each refusal and each stop that the code names.
use Rattle.std.specs.Prelude.{ℕ, cond, eqb}
use Rattle.numbers.specs.declared.Refusal.{Refusal}
use Rattle.numbers.specs.declared.Stop.{Stop}
use Rattle.numbers.specs.ComesBack.{absent_port, absent_ram_address, address_over_8191, bound_over_65535, byte_given_twice, data_byte_past_1_ff_fh, display_buffer_under_40_bytes, end_missing_or_text_after_it, excluded_instruction_reachable, image_of_another_size, malformed_line_or_end_with_bytes, more_than_65536_frames, no_frame, not_to_be_written, output_buffer_under_22540_bytes, past_end, path_buffer_too_short, pulses_over_the_limit, record_outside_the_ranges, record_sum, record_type, recursion_reachable, repetition_reachable, reserved_value, stack_level, tf_of_zero_while_on, unassigned_code, work_buffer_is_not_9216_bytes}

abbrev pub refusal_number : Refusal → ℕ
refusal_number Refusal.ImageOfAnotherSize = image_of_another_size
refusal_number Refusal.RecordOutsideTheRanges = record_outside_the_ranges
refusal_number Refusal.NoFrame = no_frame
refusal_number Refusal.MoreThan65536Frames = more_than_65536_frames
refusal_number Refusal.DisplayBufferUnder40Bytes = display_buffer_under_40_bytes
refusal_number Refusal.NotToBeWritten = not_to_be_written
refusal_number Refusal.AddressOver8191 = address_over_8191
refusal_number Refusal.ExcludedInstructionReachable = excluded_instruction_reachable
refusal_number Refusal.RepetitionReachable = repetition_reachable
refusal_number Refusal.PathBufferTooShort = path_buffer_too_short
refusal_number Refusal.RecursionReachable = recursion_reachable
refusal_number Refusal.BoundOver65535 = bound_over_65535
refusal_number Refusal.UnassignedCode = unassigned_code
refusal_number Refusal.PastEnd = past_end
refusal_number Refusal.MalformedOrEndWithBytes = malformed_line_or_end_with_bytes
refusal_number Refusal.RecordSum = record_sum
refusal_number Refusal.RecordType = record_type
refusal_number Refusal.Past1FFF = data_byte_past_1_ff_fh
refusal_number Refusal.GivenTwice = byte_given_twice
refusal_number Refusal.EndMissingOrTextAfter = end_missing_or_text_after_it
refusal_number Refusal.OutputBufferUnder22540Bytes = output_buffer_under_22540_bytes
refusal_number Refusal.WorkBufferIsNot9216Bytes = work_buffer_is_not_9216_bytes
refusal_number Refusal.PulsesOverTheLimit = pulses_over_the_limit
refusal_number Refusal.TfOfZeroWhileOn = tf_of_zero_while_on

-- and the refusal of a number of the table; of another number it is never asked
abbrev pub refusal_of_number : ℕ → Refusal
refusal_of_number n =
    cond (eqb n 1) Refusal.ImageOfAnotherSize
    (cond (eqb n 2) Refusal.RecordOutsideTheRanges
    (cond (eqb n 3) Refusal.NoFrame
    (cond (eqb n 4) Refusal.MoreThan65536Frames
    (cond (eqb n 5) Refusal.DisplayBufferUnder40Bytes
    (cond (eqb n 11) Refusal.NotToBeWritten
    (cond (eqb n 20) Refusal.AddressOver8191
    (cond (eqb n 21) Refusal.ExcludedInstructionReachable
    (cond (eqb n 22) Refusal.RepetitionReachable
    (cond (eqb n 23) Refusal.PathBufferTooShort
    (cond (eqb n 24) Refusal.RecursionReachable
    (cond (eqb n 25) Refusal.BoundOver65535
    (cond (eqb n 30) Refusal.UnassignedCode
    (cond (eqb n 35) Refusal.PastEnd
    (cond (eqb n 40) Refusal.MalformedOrEndWithBytes
    (cond (eqb n 41) Refusal.RecordSum
    (cond (eqb n 42) Refusal.RecordType
    (cond (eqb n 43) Refusal.Past1FFF
    (cond (eqb n 44) Refusal.GivenTwice
    (cond (eqb n 45) Refusal.EndMissingOrTextAfter
    (cond (eqb n 46) Refusal.OutputBufferUnder22540Bytes
    (cond (eqb n 47) Refusal.WorkBufferIsNot9216Bytes
    (cond (eqb n 48) Refusal.PulsesOverTheLimit Refusal.TfOfZeroWhileOn))))))))))))))))))))))

abbrev pub stop_number : Stop → ℕ
stop_number Stop.UnassignedCode = unassigned_code
stop_number Stop.AbsentRamAddress = absent_ram_address
stop_number Stop.StackLevel = stack_level
stop_number Stop.AbsentPort = absent_port
stop_number Stop.ReservedValue = reserved_value
stop_number Stop.PastEnd = past_end
