-- `text_screen::screen` meets its contract.
use Rattle.display.specs.Display.{is_lit, dot_of}
use Rattle.text_screen.specs.Screen.{opening_of, screen_text}
use Rattle.text_screen.proofs.Signs.{same_lines, picture}
use borrow.Author.Rules.{rules}
use Rattle.text_screen.proofs.screen.Goals as goal

pub returns : goal.returns
unfolding screen_text
returns g c =
    let form = c.args.form in
    let lit = is_lit c.display.new.out in
    let dots = dot_of c.args.m in
    let same = same_lines form lit dots 8 (c.display.ensures.shown c.requires.0 (search rules)).1.dots in
    picture form c.args.out.now lit dots (opening_of form) c.opening.new.out c.lines.new.out same c.opening.ensures.text c.lines.ensures
