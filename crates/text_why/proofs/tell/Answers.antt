-- `text_why::tell` meets its contract.
use mathlib.Core.Path.{sym, ◌∙◌}
use borrow.Author.Rules.{rules}
use Rattle.step.proofs.Answering.{seen_in_range}
use Rattle.text_why.proofs.Telling.{bad-line, frame-told}
use Rattle.text_why.proofs.tell.Goals as goal

pub tell_step-requires : goal.tell_step-requires
tell_step-requires g c = (search rules, (c.args.image.of_its_size, c.requires.0, c.requires.1, seen_in_range _ _ _ (sym c.frame_of.ensures ∙ c.in-Some.is), c.requires.2))

pub returns-in-Some : goal.returns-in-Some
returns-in-Some g c = frame-told _ _ _ _ _ _ _ (record { core = c.requires.0; ram = c.requires.1 }) (sym c.frame_of.ensures ∙ c.in-Some.is) c.tell_step.ensures

pub returns-in-None : goal.returns-in-None
returns-in-None g c = bad-line _ _ _ _ _ _ _ (record { core = c.requires.0; ram = c.requires.1 }) (sym c.frame_of.ensures ∙ c.in-None.is) c.refused_line.ensures.text
