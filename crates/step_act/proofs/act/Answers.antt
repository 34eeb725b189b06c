-- `step_act::act` meets its contract.
use Rattle.std.proofs.lemmas.Result.{err_from_is_err_and}
use Rattle.step_act.proofs.ActValid.{turn-valid}
use Rattle.step_act.proofs.Acting.{given_valid, time-passes, none-passes}
use Rattle.step_act.proofs.act.Goals as goal

pub returns-in_err-cycles : goal.returns-in_err-cycles
returns-in_err-cycles c =
    let p = err_from_is_err_and c.from_residual.result c.from_residual.ensures.1 in
    rw (p.1, p.2) (none-passes _ _ _ _ _ _ c.requires.0.valid.ints.due (rw c.in_err-cycles.was at c.turn.ensures))

pub after-requires : goal.after-requires
after-requires c =
    let v = (given_valid _ _ _ _ (rw c.in_ok-cycles.was at c.turn.ensures) (turn-valid _ _ _ (record { core = c.requires.0.valid; ram = c.requires.1 }) c.requires.0.running (λ p3 at. c.args.board.of_bytes p3 at))).core in
    (v.ints, v.timers, v.ports.p25)

pub returns : goal.returns
returns c = time-passes _ _ _ _ _ _ _ (rw c.in_ok-cycles.was at c.turn.ensures) c.after.ensures
