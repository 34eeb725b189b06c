-- `step_act::run_one` meets its contract.
use mathlib.Core.Path.{sym, ◌∙◌}
use Rattle.device.specs.Device.{rom_of}
use Rattle.reader.proofs.Rows.{read-in-fields}
use Rattle.step_act.proofs.Acting.{none_read, row_read}
use Rattle.step_act.proofs.run_one.Goals as goal

pub returns-in_default : goal.returns-in_default
returns-in_default c = rw c.from.ensures (none_read _ _ _ _ _ (sym c.read_at-read.ensures ∙ c.unwrap_err.ensures))

pub perform-requires : goal.perform-requires
perform-requires c =
    let pre = c.requires in
    let args = c.args in
    let rom = rom_of args.board.image.now args.m.ports.p3 in
    record { core = pre.0; ram = pre.1; insn = read-in-fields rom args.m.pc _ (sym c.read_at-read.ensures ∙ c.in-Ok.is) (λ at. args.board.of_bytes args.m.ports.p3 at) }

pub returns : goal.returns
returns c = row_read _ _ _ _ _ _ _ (sym c.read_at-read.ensures ∙ c.in-Ok.is) c.perform.ensures
