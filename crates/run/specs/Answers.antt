-- What the call run answers: document 01's number, 0 where nothing is refused and nothing stops, and what comes with it. Refusals in the order of its table, but 4 before 3.
use Rattle.std.specs.Prelude.{ℕ, ◌<◌, ◌≤◌, ◌*◌, true, false, List, Result, Ok, Err, ◌≡◌, length}
use Rattle.numbers.specs.ComesBack.{image_of_another_size, record_outside_the_ranges, no_frame, more_than_65536_frames}
use Rattle.numbers.specs.Numbered.{refusal_number}
use Rattle.numbers.specs.declared.Refusal.{Refusal}
use Rattle.device.specs.Device.{image_size, frame_size, rom_of}
use Rattle.frame.specs.Frame.{are_frames, frames_of}
use Rattle.record.specs.Valid.{Valid}
use Rattle.record.specs.declared.Machine.{Machine}
use Rattle.device.specs.declared.Options.{Options}
use Rattle.step.specs.Advance.{stop_or_0}
use Rattle.run.specs.Run.{RunPaper, run_of}
use Rattle.run.specs.declared.Ran.{Ran}

-- a refusal gives nothing else: the record is the one that was handed in
abbrev pub run_refused : ℕ → Machine → RunPaper
run_refused number m = record { number = number; steps = 0; cycles = 0; machine = m }

-- what comes back of a run that was made, and that of what the code answers, m being the record that was handed in
abbrev pub ran : Ran → RunPaper
ran x = record { number = stop_or_0 x.stop; steps = x.steps; cycles = x.cycles; machine = x.machine }

abbrev pub paper_of : Machine → Result Ran Refusal → RunPaper
paper_of m (Ok x) = ran x
paper_of m (Err refusal) = run_refused (refusal_number refusal) m

-- "more than 65,536 frames" is 4
abbrev pub most_frames : ℕ
most_frames = 65536

-- "A run checks all frames first"
pub record RunOf (image : List ℕ) (o : Options) (m : Machine) (frames : List ℕ) (r : RunPaper) : Type 0 where
  pub refused_1 : (length image ≡ image_size o.device → ⊥) → r ≡ run_refused image_of_another_size m
  pub refused_2 : length image ≡ image_size o.device → (Valid o.device m → ⊥) → r ≡ run_refused record_outside_the_ranges m
  pub refused_4 : length image ≡ image_size o.device → Valid o.device m → most_frames * frame_size o.device < length frames → r ≡ run_refused more_than_65536_frames m
  pub refused_3 : length image ≡ image_size o.device → Valid o.device m → length frames ≤ most_frames * frame_size o.device → are_frames o.device frames ≡ false → r ≡ run_refused no_frame m
  pub runs : length image ≡ image_size o.device → Valid o.device m → length frames ≤ most_frames * frame_size o.device → are_frames o.device frames ≡ true → r ≡ run_of (rom_of image) o m (frames_of o.device frames)
