-- `sha256::scheduled` meets its contract.
use Rattle.std.proofs.Common.{◌≡◌, sym, refl, ◌∙◌, arith, length-set, take_all}
use Rattle.sha256.proofs.Steps.{word_written}
use Rattle.sha256.specs.Sha256.{padded}
use Rattle.sha256.proofs.Steps.{no_word}
use Rattle.sha256.proofs.scheduled.Goals as goal

pub loop-t-init : goal.loop-t-init
loop-t-init c = (refl, sym (no_word _ _))

pub loop-t-preserved : goal.loop-t-preserved
loop-t-preserved c =
    let a = c.args in
    let l = c.loop-t in
    let longer = word_written (padded a.message.now) a.from l.t l.w c.next_word-next.result (omega arith) l.invariant.1 c.next_word-next.ensures in
    ((simp length-set l.invariant.0), longer)

pub returns : goal.returns
returns c =
    let l = c.loop-t in
    let e : l.t ≡ 64 = omega arith in
    sym (take_all 64 l.w (omega arith)) ∙ (rw e at l.invariant.1)
