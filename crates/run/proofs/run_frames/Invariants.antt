-- `run::run_frames` meets its contract.
use mathlib.Core.Path.{◌≡◌}
use Rattle.std.specs.Slice.Iter.{chunks_exact_rest, chunks_exact_size}
use Rattle.device.specs.Device.{rom_of, frame_size}
use Rattle.frame.specs.Frame.{frames_of}
use Rattle.record.specs.With.{assembled}
use Rattle.run.specs.Run.{run_of}
use Rattle.run.proofs.Going.{Going}
use Rattle.run.proofs.run_frames.Given as goal

abbrev pub invariant-loop-frame : goal.invariant-loop-frame
invariant-loop-frame l = record {
  size : chunks_exact_size l.frame-iterator ≡ frame_size l.options.device;
  going : Going (rom_of l.image) l.options l.frames (run_of (rom_of l.image) l.options (assembled l.initial.core l.initial.ram) (frames_of l.options.device l.frames)) l.core l.ram (chunks_exact_rest l.frame-iterator) l.steps l.cycles;
}
