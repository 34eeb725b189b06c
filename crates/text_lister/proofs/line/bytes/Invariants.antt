-- `text_lister::line::bytes` meets its contract: i bytes are written.
use mathlib.Core.Path.{◌≡◌}
use mathlib.Core.List.{◌++◌}
use Prim.Native.Nat.{◌+◌, ◌*◌, ◌≤◌, min}
use lib.ListN.{length, take}
use Rattle.device.specs.Device.{rom_of}
use Rattle.sheet.specs.Reading.{fetched}
use Rattle.text_lister.specs.Listing.{spaced}
use Rattle.text_lister.proofs.line.bytes.Given as goal

abbrev pub invariant-loop-i : goal.invariant-loop-i
invariant-loop-i g l = record {
  text : l.out ≡ l.initial.out ++ spaced (take l.i (fetched (rom_of l.window.bytes.now l.window.p3) l.at));
  size : length l.out + min l.i 1 ≤ length l.initial.out + 3 * l.i;
}
