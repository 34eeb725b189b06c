-- `hex_chunks::held::complete` meets its contract.
use mathlib.Core.Path.{◌≡◌}
use Rattle.hex_chunks.proofs.held.Completing.{completes, completes-long}
use Rattle.hex_chunks.proofs.held.complete.Goals as goal
use Rattle.hex_chunks.proofs.held.complete.Goals.{in-Some, in-None}

pub returns-clause-by_index : goal.returns-clause-by_index
returns-clause-by_index c = λ l h.
    elim c.match-line.branch [
      | in-Some w ↦
          let e : w.in-Some.characters.now ≡ l = rw w.in-Some.is at h in
          completes l c.match-line.judged c.after_line.result (rw w.judged-is (rw e at w.judge-judged.ensures)) c.after_line.ensures
      | in-None w ↦ completes-long l c.after_line.result (rw w.in-None.is at h) (rw w.judged-is at c.after_line.ensures)
    ]
