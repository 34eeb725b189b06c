-- Document 01's listing, computed from the definitions.
use mathlib.Core.Path.{◌≡◌, refl}
use mathlib.Core.List.{List, [], ◌∷◌, ◌++◌}
use Prim.Native.Nat.{ℕ}
use Rattle.sheet.specs.Reading.{row_number, row_with}
use Rattle.sheet.specs.Table.{lines, line_at}
use Rattle.device.specs.Device.{rom_of}
use Rattle.device.specs.declared.Device.TheVariants.{Em73862, Em73P982}
use Rattle.text.specs.Hexadecimal.{digit_of}
use Rattle.frame.specs.Frame.{frame_of}
use Rattle.clock.specs.Clock.{met, tick, passed, event_count}
use Rattle.alu.specs.Flags.{flag_after}
use Rattle.alu.specs.Making.{made}
use Rattle.due.specs.Due.{due_source}
use Rattle.record.specs.Start.{fresh_machine}
use Rattle.row.specs.Rows.{work_of, branch_of}
use Rattle.row.specs.Steps.{put_step}
use Rattle.step_look.specs.Look.{edges_counted, looked}
use Rattle.step_act.specs.Act.{source_of, run_one, accept_or_run, core_after, act_of}
use Rattle.step.specs.Step.{look_step, act_step, step_of}
use Rattle.text.specs.Digits.{characters, digit, in_base, places_of}
use Rattle.listing.specs.Lines.{header, step_line}
use Rattle.text.specs.Script.{lines_of}
use Rattle.listing.specs.Listing.{answer_of, told_over}

-- "D0 D3 6E 55 6E 5D 6E 5E 08, zeros after"
abbrev rom : ℕ → ℕ → ℕ
rom = rom_of (0xD0 ∷ 0xD3 ∷ 0x6E ∷ 0x55 ∷ 0x6E ∷ 0x5D ∷ 0x6E ∷ 0x5E ∷ 0x08 ∷ [])

abbrev six : List ℕ
six =
    characters "PC A H L S CZS C X\n0001 0 0 0 0 011 1 00\n0002 3 0 0 0 001 1 00\n0004 8 0 0 0 001 2 00\n0006 5 0 0 0 000 2 00\n0008 3 0 0 0 000 2 00\n0009 3 0 0 0 001 1 00\n"

six_lines : header ++ told_over Em73862 rom (fresh_machine Em73862) (lines_of (characters "FF1\nFF1\nFF1\nFF1\nFF1\nFF1\n")) ≡ six
unfolding row_number row_with lines line_at digit_of frame_of met tick passed event_count flag_after made due_source work_of branch_of put_step edges_counted looked source_of run_one accept_or_run core_after act_of look_step act_step step_of digit in_base places_of step_line answer_of
six_lines = refl

-- the EM73P982 prints the same, its frames having a digit more
six_lines_of_four : header ++ told_over Em73P982 rom (fresh_machine Em73P982) (lines_of (characters "FFF0\nFFF0\nFFF0\nFFF0\nFFF0\nFFF0\n")) ≡ six
unfolding row_number row_with lines line_at digit_of frame_of met tick passed event_count flag_after made due_source work_of branch_of put_step edges_counted looked source_of run_one accept_or_run core_after act_of look_step act_step step_of digit in_base places_of step_line answer_of
six_lines_of_four = refl
