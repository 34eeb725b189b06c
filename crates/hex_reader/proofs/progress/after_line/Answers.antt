-- `hex_reader::progress::after_line` meets its contract.
use mathlib.Core.Path.{◌≡◌}
use borrow.Author.Rules.{rules}
use Rattle.hex_reader.specs.Reached.{at_line}
use Rattle.hex_reader.proofs.progress.Advancing.{after-end}
use Rattle.hex_reader.proofs.progress.after_line.Goals as goal
use Rattle.hex_reader.proofs.progress.after_line.Goals.{in-Going, in-Ended}

pub returns : goal.returns
returns c =
    let e : c.map_err.result ≡ at_line c.args.n c.match-stage.on = search rules in
    rw e (elim c.match-stage.branch [
      | in-Going w ↦ rw (w.in-Going.is, w.work-is, w.on-is) (w.after_judged-on.ensures c.args.n)
      | in-Ended w ↦ rw (w.in-Ended.is, w.work-is, w.on-is) (after-end c.args.line c.args.work.now c.args.n)
    ])
