-- `text_screen::lines` meets its contract: c lines are written.
use native.Mathlib.Omega.{arith}
use Rattle.display.specs.Display.{is_lit}
use Rattle.text_screen.proofs.Signs.{no_line, one_line}
use Rattle.text_screen.proofs.lines.Goals as goal

pub loop-c-init : goal.loop-c-init
loop-c-init g c = record { text = no_line c.args.form c.args.out.now (is_lit c.args.bytes.now); size = omega arith }

pub loop-c-preserved : goal.loop-c-preserved
loop-c-preserved g c = record {
  text = one_line c.args.form c.args.out.now (is_lit c.args.bytes.now) c.loop-c.c c.loop-c.out c.line.new.out c.loop-c.invariant.text c.line.ensures.text;
  size = omega arith;
}
