-- `row_ports::memory::write_from_cell` meets its contract.
use Rattle.std.proofs.Common.{rules, ◌≡◌, Err}
use borrow.Author.Tests.{lt-ltb}
use Rattle.row_ports.proofs.WithCell.{outm, outm-absent}
use Rattle.row_ports.proofs.memory.write_from_cell.Goals as goal

pub returns-in_err-at_hl : goal.returns-in_err-at_hl
returns-in_err-at_hl c =
    let stop : c.from_residual.result ≡ Err c.in_err-at_hl.field-0.0 = search rules in
    rw (stop, c.in_err-at_hl.ensures.0) (outm-absent _ _ _ _ (rw c.in_err-at_hl.ensures.1))

pub returns : goal.returns
returns c =
    let there = c.in_ok-at_hl.ensures in
    outm _ _ _ _ _ (rw (← there.0) (lt-ltb _ 372 there.1)) (rw (← there.0, ← c.peek-v.ensures.value) c.written.ensures)
