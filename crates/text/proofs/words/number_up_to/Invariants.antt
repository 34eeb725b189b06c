-- `text::words::number_up_to` meets its contract.
use Rattle.text.proofs.words.Values.{Parsed}
use Rattle.text.proofs.words.number_up_to.Given as goal

abbrev pub invariant-loop-c : goal.invariant-loop-c
invariant-loop-c l = Parsed l.most l.base l.word l.value l.c-index
