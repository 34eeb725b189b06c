-- `text_screen::line` meets its contract: s signs are written.
use native.Mathlib.Omega.{arith}
use Rattle.display.specs.Display.{is_lit}
use Rattle.text_screen.proofs.Signs.{no_sign, one_sign}
use Rattle.text_screen.proofs.line.Goals as goal

pub loop-s-init : goal.loop-s-init
loop-s-init g c = record { text = no_sign c.args.form c.args.out.now (is_lit c.args.bytes.now c.args.c); size = omega arith }

pub loop-s-preserved : goal.loop-s-preserved
loop-s-preserved g c = record {
  text = one_sign c.args.form c.args.out.now (is_lit c.args.bytes.now c.args.c) c.loop-s.s c.loop-s.out c.put.new.self c.sign.result c.loop-s.invariant.text (cc) c.put.ensures.text;
  size = omega arith;
}
