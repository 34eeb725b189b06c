-- `text_lister::line::listing` meets its contract: the sweep from `at` is left for the lines that are not done.
use mathlib.Core.Path.{◌≡◌}
use mathlib.Core.List.{◌++◌}
use Prim.Native.Nat.{◌+◌, ◌-◌, ◌*◌, ◌≤◌}
use lib.ListN.{length}
use Rattle.device.specs.Device.{rom_of}
use Rattle.text_lister.specs.Listing.{swept_lines}
use Rattle.text_lister.proofs.line.listing.Given as goal

abbrev pub invariant-loop-done : goal.invariant-loop-done
invariant-loop-done g l = record {
  text : l.out ++ swept_lines (rom_of l.window.bytes.now l.window.p3) l.at (l.count - l.done) ≡ l.initial.out ++ swept_lines (rom_of l.window.bytes.now l.window.p3) l.from l.count;
  room : length l.out + 37 * (l.count - l.done) + 3 ≤ g.row.N;
}
