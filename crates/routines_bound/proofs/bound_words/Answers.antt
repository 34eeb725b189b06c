-- `routines_bound::bound_words` meets its contract.
use mathlib.Core.Path.{refl}
use Rattle.routines.specs.Answer.{gives_24}
use Rattle.routines_bound.proofs.bound_words.Goals as goal

pub returns-in-Some : goal.returns-in-Some
returns-in-Some c = gives_24 c.in-Some.ensures (record { first = refl; second = refl })

pub returns : goal.returns
returns c = c.in_default.ensures.answers _ _ _ _ _ c.answer_judged.ensures
