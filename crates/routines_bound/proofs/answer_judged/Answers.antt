-- `routines_bound::answer_judged` meets its contract.
use Rattle.std.proofs.lemmas.Result.{err_from_is_err_and}
use Rattle.routines_bound.proofs.Answers.{priced, unsound_answer, sound_answer}
use Rattle.routines_bound.proofs.answer_judged.Goals as goal

pub returns-in_err-judged : goal.returns-in_err-judged
returns-in_err-judged c =
    let p = err_from_is_err_and c.from_residual.result c.from_residual.ensures.1 in
    rw (p.1, p.2) (unsound_answer _ c.in_err-judged.ensures _ _)

pub measured-requires : goal.measured-requires
measured-requires c = (priced c.requires.words, c.requires.words.laid.some)

pub returns : goal.returns
returns c = sound_answer c.requires c.in_ok-judged.ensures c.measured.ensures
