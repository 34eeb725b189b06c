-- `text_screen::lines` meets its contract: c lines are written.
use mathlib.Core.Path.{◌≡◌}
use mathlib.Core.List.{◌++◌}
use Prim.Native.Nat.{◌+◌, ◌*◌}
use lib.ListN.{length}
use Rattle.display.specs.Display.{is_lit}
use Rattle.text_screen.specs.Screen.{lines_of}
use Rattle.text_screen.proofs.lines.Given as goal

abbrev pub invariant-loop-c : goal.invariant-loop-c
invariant-loop-c g l = record {
  text : l.out ≡ l.initial.out ++ lines_of l.form (is_lit l.bytes) l.c;
  size : length l.out ≡ length l.initial.out + 41 * l.c;
}
