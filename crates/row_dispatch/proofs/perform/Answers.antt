-- `row_dispatch::perform` meets its contract.
use Rattle.std.proofs.Common.{rules, ◌≡◌, Err}
use Rattle.row.proofs.PlacesValid.{latch_low}
use Rattle.laws.proofs.Among.{first}
use Rattle.row_dispatch.specs.Groups.{rom_low, rom_high, port_to_cell, cell_to_port}
use Rattle.row_dispatch.proofs.Arms.{quiet, loads, points, points_not, rom_read, acted, stopped, turns, ported, ported_by}
use Rattle.row_dispatch.proofs.perform.Goals as goal

pub write_row-requires : goal.write_row-requires
write_row-requires c = let v = c.requires.core in let g = c.group_of.ensures in record { regs = v.regs; pc = v.pc; latches = λ n. latch_low _ n v.ports; port = search rules; listed = search rules }

pub returns-in-Moves : goal.returns-in-Moves
returns-in-Moves c = rw c.with_act.ensures (quiet _ _ _ _ _ _ c.moved.ensures)

pub returns-in-Makes : goal.returns-in-Makes
returns-in-Makes c = rw c.with_act-in-Makes.ensures (quiet _ _ _ _ _ _ c.made.ensures)

pub returns-in-Asks : goal.returns-in-Asks
returns-in-Asks c = rw c.with_act-in-Asks.ensures (quiet _ _ _ _ _ _ c.asked.ensures)

pub returns-in-Branches : goal.returns-in-Branches
returns-in-Branches c = rw c.with_act-in-Branches.ensures (quiet _ _ _ _ _ _ c.branched.ensures)

pub returns-in_err-load_pointer-in-GetPointer : goal.returns-in_err-load_pointer-in-GetPointer
returns-in_err-load_pointer-in-GetPointer c = let stop : c.from_residual.result ≡ Err c.in_err-load_pointer-in-GetPointer.field-0.0 = search rules in rw stop (points_not _ _ _ _ _ _ c.in_err-load_pointer-in-GetPointer.ensures)

pub returns-in_ok-load_pointer-in-GetPointer : goal.returns-in_ok-load_pointer-in-GetPointer
returns-in_ok-load_pointer-in-GetPointer c = rw c.with_act-in-GetPointer.ensures (loads _ _ _ _ _ _ c.in_ok-load_pointer-in-GetPointer.ensures)

pub returns-in_err-load_timer-in-GetTimer : goal.returns-in_err-load_timer-in-GetTimer
returns-in_err-load_timer-in-GetTimer c = let stop : c.from_residual-in_err-load_timer-in-GetTimer.result ≡ Err c.in_err-load_timer-in-GetTimer.field-0.0 = search rules in rw stop (points_not _ _ _ _ _ _ c.in_err-load_timer-in-GetTimer.ensures)

pub returns-in_ok-load_timer-in-GetTimer : goal.returns-in_ok-load_timer-in-GetTimer
returns-in_ok-load_timer-in-GetTimer c = rw c.with_act-in-GetTimer.ensures (loads _ _ _ _ _ _ c.in_ok-load_timer-in-GetTimer.ensures)

pub returns-in_err-read_by_hl-in-ReadByHl : goal.returns-in_err-read_by_hl-in-ReadByHl
returns-in_err-read_by_hl-in-ReadByHl c = let stop : c.from_residual-in_err-read_by_hl-in-ReadByHl.result ≡ Err c.in_err-read_by_hl-in-ReadByHl.field-0.0 = search rules in rw stop (stopped _ _ _ _ _ _ _ c.in_err-read_by_hl-in-ReadByHl.ensures)

pub returns-in_ok-read_by_hl-in-ReadByHl : goal.returns-in_ok-read_by_hl-in-ReadByHl
returns-in_ok-read_by_hl-in-ReadByHl c = rw c.with_act-in-ReadByHl.ensures (acted _ _ _ _ _ _ _ c.in_ok-read_by_hl-in-ReadByHl.ensures)

pub returns-in_err-read_by_x-in-ReadByX : goal.returns-in_err-read_by_x-in-ReadByX
returns-in_err-read_by_x-in-ReadByX c = let stop : c.from_residual-in_err-read_by_x-in-ReadByX.result ≡ Err c.in_err-read_by_x-in-ReadByX.field-0.0 = search rules in rw stop (stopped _ _ _ _ _ _ _ c.in_err-read_by_x-in-ReadByX.ensures)

pub returns-in_ok-read_by_x-in-ReadByX : goal.returns-in_ok-read_by_x-in-ReadByX
returns-in_ok-read_by_x-in-ReadByX c = rw c.with_act-in-ReadByX.ensures (acted _ _ _ _ _ _ _ c.in_ok-read_by_x-in-ReadByX.ensures)

pub returns-in_err-read_by_y-in-ReadByY : goal.returns-in_err-read_by_y-in-ReadByY
returns-in_err-read_by_y-in-ReadByY c = let stop : c.from_residual-in_err-read_by_y-in-ReadByY.result ≡ Err c.in_err-read_by_y-in-ReadByY.field-0.0 = search rules in rw stop (stopped _ _ _ _ _ _ _ c.in_err-read_by_y-in-ReadByY.ensures)

pub returns-in_ok-read_by_y-in-ReadByY : goal.returns-in_ok-read_by_y-in-ReadByY
returns-in_ok-read_by_y-in-ReadByY c = rw c.with_act-in-ReadByY.ensures (acted _ _ _ _ _ _ _ c.in_ok-read_by_y-in-ReadByY.ensures)

pub returns-in_err-load_pair-in-LoadPair : goal.returns-in_err-load_pair-in-LoadPair
returns-in_err-load_pair-in-LoadPair c = let stop : c.from_residual-in_err-load_pair-in-LoadPair.result ≡ Err c.in_err-load_pair-in-LoadPair.field-0.0 = search rules in rw stop (stopped _ _ _ _ _ _ _ c.in_err-load_pair-in-LoadPair.ensures)

pub returns-in_ok-load_pair-in-LoadPair : goal.returns-in_ok-load_pair-in-LoadPair
returns-in_ok-load_pair-in-LoadPair c = rw c.with_act-in-LoadPair.ensures (acted _ _ _ _ _ _ _ c.in_ok-load_pair-in-LoadPair.ensures)

pub returns-in_err-write_by_hl-in-WriteByHl : goal.returns-in_err-write_by_hl-in-WriteByHl
returns-in_err-write_by_hl-in-WriteByHl c = let stop : c.from_residual-in_err-write_by_hl-in-WriteByHl.result ≡ Err c.in_err-write_by_hl-in-WriteByHl.field-0.0 = search rules in rw stop (stopped _ _ _ _ _ _ _ c.in_err-write_by_hl-in-WriteByHl.ensures)

pub returns-in_ok-write_by_hl-in-WriteByHl : goal.returns-in_ok-write_by_hl-in-WriteByHl
returns-in_ok-write_by_hl-in-WriteByHl c = rw c.with_act-in-WriteByHl.ensures (acted _ _ _ _ _ _ _ c.in_ok-write_by_hl-in-WriteByHl.ensures)

pub returns-in_err-write_by_x-in-WriteByX : goal.returns-in_err-write_by_x-in-WriteByX
returns-in_err-write_by_x-in-WriteByX c = let stop : c.from_residual-in_err-write_by_x-in-WriteByX.result ≡ Err c.in_err-write_by_x-in-WriteByX.field-0.0 = search rules in rw stop (stopped _ _ _ _ _ _ _ c.in_err-write_by_x-in-WriteByX.ensures)

pub returns-in_ok-write_by_x-in-WriteByX : goal.returns-in_ok-write_by_x-in-WriteByX
returns-in_ok-write_by_x-in-WriteByX c = rw c.with_act-in-WriteByX.ensures (acted _ _ _ _ _ _ _ c.in_ok-write_by_x-in-WriteByX.ensures)

pub returns-in_err-write_by_y-in-WriteByY : goal.returns-in_err-write_by_y-in-WriteByY
returns-in_err-write_by_y-in-WriteByY c = let stop : c.from_residual-in_err-write_by_y-in-WriteByY.result ≡ Err c.in_err-write_by_y-in-WriteByY.field-0.0 = search rules in rw stop (stopped _ _ _ _ _ _ _ c.in_err-write_by_y-in-WriteByY.ensures)

pub returns-in_ok-write_by_y-in-WriteByY : goal.returns-in_ok-write_by_y-in-WriteByY
returns-in_ok-write_by_y-in-WriteByY c = rw c.with_act-in-WriteByY.ensures (acted _ _ _ _ _ _ _ c.in_ok-write_by_y-in-WriteByY.ensures)

pub returns-in_err-exchange_pair-in-SwapPair : goal.returns-in_err-exchange_pair-in-SwapPair
returns-in_err-exchange_pair-in-SwapPair c = let stop : c.from_residual-in_err-exchange_pair-in-SwapPair.result ≡ Err c.in_err-exchange_pair-in-SwapPair.field-0.0 = search rules in rw stop (stopped _ _ _ _ _ _ _ c.in_err-exchange_pair-in-SwapPair.ensures)

pub returns-in_ok-exchange_pair-in-SwapPair : goal.returns-in_ok-exchange_pair-in-SwapPair
returns-in_ok-exchange_pair-in-SwapPair c = rw c.with_act-in-SwapPair.ensures (acted _ _ _ _ _ _ _ c.in_ok-exchange_pair-in-SwapPair.ensures)

pub returns-in_err-store_pointer-in-SetPointer : goal.returns-in_err-store_pointer-in-SetPointer
returns-in_err-store_pointer-in-SetPointer c = let stop : c.from_residual-in_err-store_pointer-in-SetPointer.result ≡ Err c.in_err-store_pointer-in-SetPointer.field-0.0 = search rules in rw stop (points_not _ _ _ _ _ _ c.in_err-store_pointer-in-SetPointer.ensures)

pub returns-in_ok-store_pointer-in-SetPointer : goal.returns-in_ok-store_pointer-in-SetPointer
returns-in_ok-store_pointer-in-SetPointer c = rw c.with_pointed.ensures (points _ _ _ _ _ _ c.in_ok-store_pointer-in-SetPointer.ensures)

pub returns-in_err-store_timer-in-SetTimer : goal.returns-in_err-store_timer-in-SetTimer
returns-in_err-store_timer-in-SetTimer c = let stop : c.from_residual-in_err-store_timer-in-SetTimer.result ≡ Err c.in_err-store_timer-in-SetTimer.field-0.0 = search rules in rw stop (points_not _ _ _ _ _ _ c.in_err-store_timer-in-SetTimer.ensures)

pub returns-in_ok-store_timer-in-SetTimer : goal.returns-in_ok-store_timer-in-SetTimer
returns-in_ok-store_timer-in-SetTimer c = rw c.with_pointed-in-SetTimer.ensures (points _ _ _ _ _ _ c.in_ok-store_timer-in-SetTimer.ensures)

pub returns-in-RomLow : goal.returns-in-RomLow
returns-in-RomLow c = rw c.with_pointed-in-RomLow.ensures (rom_read _ _ _ _ 3 _ _ (first rom_low _ (search rules) tt) (rw (← c.rom_byte.ensures) c.load_low.ensures))

pub returns-in-RomHigh : goal.returns-in-RomHigh
returns-in-RomHigh c = rw c.with_pointed-in-RomHigh.ensures (rom_read _ _ _ _ 4 _ _ (first rom_high _ (search rules) tt) (rw (← c.rom_byte-in-RomHigh.ensures) c.load_high.ensures))

pub returns-in-Latches : goal.returns-in-Latches
returns-in-Latches c = turns _ _ _ _ _ _ _ (c.latch.ensures.turns _)

pub returns-in-Returns : goal.returns-in-Returns
returns-in-Returns c = turns _ _ _ _ _ _ _ (c.come_back.ensures.turns _)

pub returns-in-Calls : goal.returns-in-Calls
returns-in-Calls c = turns _ _ _ _ _ _ _ c.call.ensures

pub returns-in-WritePort : goal.returns-in-WritePort
returns-in-WritePort c = ported _ _ _ _ _ _ _ (c.write_row.ensures.ported _)

pub returns-in-ReadPort : goal.returns-in-ReadPort
returns-in-ReadPort c = ported _ _ _ _ _ _ _ (c.read_row.ensures.ported _)

pub returns-in-PortToCell : goal.returns-in-PortToCell
returns-in-PortToCell c = ported_by _ _ _ _ 75 _ _ _ (first port_to_cell _ (search rules) tt) (c.read_to_cell.ensures.ported _)

pub returns-in-CellToPort : goal.returns-in-CellToPort
returns-in-CellToPort c = ported_by _ _ _ _ 78 _ _ _ (first cell_to_port _ (search rules) tt) (c.write_from_cell.ensures.ported _)
