-- `row_ports::memory::read_to_cell` meets its contract.
use Rattle.std.proofs.Common.{rules, ◌≡◌, Err}
use borrow.Author.Tests.{lt-ltb}
use Rattle.row_ports.proofs.WithCell.{inm, inm-no-port, inm-absent}
use Rattle.row_ports.proofs.memory.read_to_cell.Goals as goal

pub returns-in_err-at : goal.returns-in_err-at
returns-in_err-at c =
    let stop : c.from_residual.result ≡ Err c.in_err-at.field-0.0 = search rules in
    rw (stop, c.in_err-at.ensures.0) (inm-absent _ _ _ _ (rw c.in_err-at.ensures.1))

pub returns-in_err-read : goal.returns-in_err-read
returns-in_err-read c =
    let stop : c.from_residual-in_err-read.result ≡ Err c.in_err-read.field-0.0 = search rules in
    rw stop (inm-no-port _ _ _ _ _ (rw (← c.in_ok-at.ensures.0) (lt-ltb _ 372 c.in_ok-at.ensures.1)) (rw (← c.in_err-read.ensures)))

pub returns : goal.returns
returns c =
    let here = inm c.args.options c.args.m c.args.b c.args.ram.now (rw (← c.in_ok-at.ensures.0) (lt-ltb _ 372 c.in_ok-at.ensures.1)) (rw (← c.in_ok-read.ensures)) in
    rw (c.left.ensures, c.tested.ensures, c.poke.ensures, c.in_ok-at.ensures.0) (rw (← c.in_ok-read.ensures) at here)
