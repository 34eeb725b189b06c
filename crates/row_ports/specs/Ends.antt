-- The ends of the rows of ports: a port written, its latch with a bit set or clear, a port read into SF or ACC, and the stop.
use Rattle.std.specs.Prelude.{ℕ, ◌+◌, ◌%◌, Bool, true, false, not, List, Result, ◌≡◌, eqb}
use Rattle.numbers.specs.Sizes.{addresses}
use Rattle.numbers.specs.declared.Stop.{Stop}
use Rattle.laws.specs.Choice.{pick}
use Rattle.bits.specs.Bits.{has_bit, with_bit, without_bit}
use Rattle.device.specs.declared.Device.{Device}
use Rattle.device.specs.declared.Options.{Options}
use Rattle.alu.specs.Making.{value_and_carry}
use Rattle.ports.specs.Ports.{latch_of, read_port, write_port, mode_after, ReadDone}
use Rattle.ports.specs.declared.Ports.{Ports}
use Rattle.record.specs.With.{assembled, core_with_regs, core_with_pc, core_with_timers, core_with_ports, core_with_mode}
use Rattle.record.specs.declared.Registers.{Registers}
use Rattle.record.specs.declared.Core.{Core}
use Rattle.row.specs.Places.{timers_after}
use Rattle.row.specs.Rows.{Done, spent, stops}
use Rattle.row.specs.Turns.{turned, done_as}
use Rattle.row_registers.specs.Quiet.{after_act}
use Rattle.row_ends.specs.declared.Act.{Act}
use Rattle.std.specs.Prelude.{Some}
use Rattle.row_ends.specs.Ends.{tested, logical}
use Rattle.row_ends.specs.declared.Register.TheVariants.{Acc}
use Rattle.row.specs.declared.Turn.{Turn}

-- what came of the scalars m is what f says, whatever RAM is
abbrev pub Tells : Core → (List ℕ → Done) → Result Turn Stop → Type 0
Tells m f x = (l : List ℕ) → done_as m x l ≡ f l

-- - - 1, past a row of so many bytes that writes v to port n
abbrev pub wrote : Device → Core → ℕ → ℕ → ℕ → Core
wrote d m n v bytes =
    let regs : Registers = record { acc = m.regs.acc; hr = m.regs.hr; lr = m.regs.lr; cf = m.regs.cf; zf = m.regs.zf; sf = true } in
    let past = core_with_pc (core_with_regs m regs) ((m.pc + bytes) % addresses) in
    let timed = core_with_timers past (timers_after m.timers n v) in
    core_with_mode (core_with_ports timed (write_port d m.ports n v).ports) (mode_after m.mode n v)

-- every row of ports takes two cycles
unfoldable pub written : Device → Core → ℕ → ℕ → ℕ → List ℕ → Done
written d m n v bytes l =
    pick (eqb (write_port d m.ports n v).stop 0)
    (spent 2 (assembled (wrote d m n v bytes) l))
    (stops (write_port d m.ports n v).stop (assembled m l))

-- "Set and clear use the latch."
abbrev pub bit_set : Device → Core → ℕ → ℕ → ℕ → List ℕ → Done
bit_set d m n w bytes = written d m n (with_bit (latch_of m.ports n) w) bytes

abbrev pub bit_cleared : Device → Core → ℕ → ℕ → ℕ → List ℕ → Done
bit_cleared d m n w bytes = written d m n (without_bit (latch_of m.ports n) w) bytes

abbrev pub port_read : Options → Core → ℕ → ReadDone
port_read options m n = read_port options.device options.sound m.pins m.ports n

-- the scalars with PC and the registers that a row leaves, and these latches
abbrev pub left : Core → Act → Ports → Turn
left m x p = record { cycles = x.cycles; core = core_with_ports (after_act m x) p }

-- a row that read what r says: its stop, or what the row makes of the value
unfoldable pub after_read : Core → ReadDone → Act → List ℕ → Done
after_read m r x l = pick (eqb r.stop 0) (turned (left m x r.ports) l) (stops r.stop (assembled m l))

-- the bit of weight w is 1, or it is 0
abbrev pub bit_answer : Bool → ℕ → ℕ → Bool
bit_answer one v w = pick one (has_bit v w) (not (has_bit v w))

-- - - *
abbrev pub port_tested : Options → Core → ℕ → ℕ → Bool → ℕ → List ℕ → Done
port_tested options m n w one bytes = after_read m (port_read options m n) (tested m (bit_answer one (port_read options m n).value w) bytes 2)

-- - Z Z'
abbrev pub port_loaded : Options → Core → ℕ → List ℕ → Done
port_loaded options m n = after_read m (port_read options m n) (logical m (Some Acc) (value_and_carry (port_read options m n).value false) 2 2)
