-- `hex_chunks::take_chunk` meets its contract: up to a place the chunk goes on with the text, whatever that was.
use mathlib.Core.Path.{◌≡◌}
use mathlib.Core.List.{List, ◌++◌}
use Prim.Native.Nat.{ℕ, ◌+◌, ◌-◌, ◌^◌, ◌<◌, ◌≤◌}
use lib.ListN.{length, take}
use Rattle.std.specs.Prelude.{Ok}
use Rattle.hex_reader.specs.Work.{work_size}
use Rattle.hex_chunks.specs.Carries.{Along}
use Rattle.hex_chunks.proofs.take_chunk.Given as goal

abbrev pub invariant-loop-held : goal.invariant-loop-held
invariant-loop-held l = record {
  size : length l.work ≡ work_size l.size;
  within : l.at ≤ length l.chunk;
  along : (text : List ℕ) → Along l.size text l.initial.held l.initial.n (Ok l.initial.stage) l.initial.work → length text + length l.chunk < 2 ^ 64 → Along l.size (text ++ take l.at l.chunk) l.held l.n (Ok l.stage) l.work;
}

abbrev pub decreases-loop-held : goal.decreases-loop-held
decreases-loop-held l = length l.chunk - l.at
