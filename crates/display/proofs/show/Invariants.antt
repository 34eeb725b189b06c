-- `display::show` meets its contract: the bytes before this one are written.
use Rattle.std.proofs.Common.{◌≡◌, ℕ, ◌<◌, get_or}
use Rattle.display.specs.Bytes.{byte_in}
use Rattle.display.proofs.show.Given as goal

abbrev pub invariant-loop-j : goal.invariant-loop-j
invariant-loop-j l = (k : ℕ) → k < l.j → get_or l.dots k 0 ≡ byte_in l.on l.m.ram k
