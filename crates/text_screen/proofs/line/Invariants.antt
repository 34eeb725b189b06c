-- `text_screen::line` meets its contract: s signs are written.
use mathlib.Core.Path.{◌≡◌}
use mathlib.Core.List.{◌++◌}
use Prim.Native.Nat.{◌+◌}
use lib.ListN.{length}
use Rattle.display.specs.Display.{is_lit}
use Rattle.text_screen.specs.Screen.{signs_of}
use Rattle.text_screen.proofs.line.Given as goal

abbrev pub invariant-loop-s : goal.invariant-loop-s
invariant-loop-s g l = record {
  text : l.out ≡ l.initial.out ++ signs_of l.form (is_lit l.bytes l.c) l.s;
  size : length l.out ≡ length l.initial.out + l.s;
}
