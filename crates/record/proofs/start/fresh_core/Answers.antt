-- `record::start::fresh_core` meets its contract.
use Rattle.record.proofs.start.Alike.{reset_3, reset_5, reset_6, fresh_p0, fresh_p8, fresh_speech}
use Rattle.record.proofs.start.fresh_core.Goals as goal

pub returns : goal.returns
returns c =
    let d = c.args.d in
    rw (c.fresh_p4.ensures, c.reset_p17.ensures, c.interrupts_of.ensures, reset_3 d, reset_5 d, reset_6 d, fresh_p0 d, fresh_p8 d, fresh_speech d)
