-- `sha256::next_word` meets its contract.
use Rattle.std.proofs.Common.{◌-◌, arith, get_or-take, le-ltb, lt-ltb}
use Rattle.sha256.specs.Sha256.{next_word}
use Rattle.sha256.proofs.Padding.{padded_length}
use Rattle.sha256.proofs.next_word.Goals as goal

pub overflow_add-from : goal.overflow_add-from
overflow_add-from c = omega (arith, padded_length c.args.message.now)

pub returns-then-t-lt16 : goal.returns-then-t-lt16
unfolding next_word
returns-then-t-lt16 c = rw (lt-ltb _ _ c.if-t-lt16.true, c.word_at.ensures)

pub returns : goal.returns
unfolding next_word
returns c =
    let a = c.args in
    let late = le-ltb _ _ c.if-t-lt16.false in
    let w = a.w.now in
    rw (late, get_or-take a.t w (a.t - 2) 0 (omega arith), get_or-take a.t w (a.t - 7) 0 (omega arith), get_or-take a.t w (a.t - 15) 0 (omega arith), get_or-take a.t w (a.t - 16) 0 (omega arith)) (cc)
