-- INM and OUTM are their lines of the table: by the address, then the port, then by computation.
use Prim.Native.Nat.{ℕ}
use mathlib.Core.Bool.{true, false, not}
use mathlib.Core.List.{List}
use mathlib.Core.Path.{◌≡◌, ◌∙◌}
use lib.Dec.{eqb, ltb}
use lib.ListN.{get_or, set}
use Rattle.std.specs.Prelude.{Result, Ok, Err}
use Rattle.numbers.specs.Numbered.{stop_number}
use Rattle.numbers.specs.declared.Stop.{Stop}
use Rattle.device.specs.declared.Options.{Options}
use Rattle.sheet.specs.Table.{lines, line_at}
use Rattle.alu.specs.Making.{made}
use Rattle.alu.specs.Flags.{flag_after}
use Rattle.record.specs.Ram.{at_hl}
use Rattle.record.specs.declared.Core.{Core}
use Rattle.row.specs.Steps.{put_step}
use Rattle.row.specs.Rows.{work_of}
use Rattle.row_ends.specs.Ends.{tested}
use Rattle.row.specs.declared.Turn.{Turn}
use Rattle.row_ports.specs.Ends.{Tells, written, left, port_read}
use Rattle.row_ports.specs.Ported.{ToCell, FromCell}
use Rattle.row_ports.proofs.Stops.{named, write_after, read_after, p9_kept}

module _ (options : Options) (m : Core) (b : ℕ) (l : List ℕ) where
  pub outm : (x : Result Turn Stop) → ltb (at_hl m) 372 ≡ true → Tells m (written options.device m b (get_or l (at_hl m) 0) 2) x → FromCell options m b l x
  unfolding line_at lines work_of put_step made flag_after written
  outm x h g = record { ported = λ a. record { same = λ rom. g l ∙ rw h } }

  pub outm-absent : ltb (at_hl m) 372 ≡ false → FromCell options m b l (Err Stop.AbsentRamAddress)
  unfolding line_at lines work_of put_step made
  outm-absent h = record { ported = λ a. record { same = λ rom. rw (h, write_after) } }

module _ (options : Options) (m : Core) (b : ℕ) (l : List ℕ) where
  pub inm : ltb (at_hl m) 372 ≡ true → eqb (port_read options m b).stop 0 ≡ true → ToCell options m b l (set l (at_hl m) (port_read options m b).value) (Ok (left m (tested m (not (eqb (port_read options m b).value 0)) 2 2) (port_read options m b).ports))
  unfolding line_at lines work_of put_step made flag_after
  inm h s = record { ported = λ a. record { same = λ rom. rw (p9_kept options.device options.sound m.pins m.ports b, h, s) } }

  pub inm-no-port : (s : Stop) → ltb (at_hl m) 372 ≡ true → stop_number s ≡ (port_read options m b).stop → ToCell options m b l l (Err s)
  unfolding line_at lines work_of put_step made
  inm-no-port s h e = record { ported = λ a. record { same = λ rom. rw (p9_kept options.device options.sound m.pins m.ports b, h, ← e, named, named, named) } }

  pub inm-absent : ltb (at_hl m) 372 ≡ false → ToCell options m b l l (Err Stop.AbsentRamAddress)
  unfolding line_at lines work_of put_step made
  inm-absent h = record { ported = λ a. record { same = λ rom. rw (p9_kept options.device options.sound m.pins m.ports b, h, read_after) } }
