-- LDHL and EXHL, and their stops, are their lines of the table: by computation.
use mathlib.Core.Path.{◌≡◌}
use mathlib.Core.Bool.{Bool, true, false}
use mathlib.Core.List.{List}
use Prim.Native.Nat.{ℕ}
use lib.Dec.{ltb}
use lib.ListN.{get_or, set}
use Rattle.std.specs.Prelude.{Ok}
use Rattle.sheet.specs.Table.{lines, line_at}
use Rattle.alu.specs.Making.{made}
use Rattle.alu.specs.Flags.{flag_after}
use Rattle.record.specs.Ram.{at_x, beside_x}
use Rattle.record.specs.declared.Core.{Core}
use Rattle.row.specs.Steps.{put_step, exchange_step}
use Rattle.row.specs.Rows.{work_of}
use Rattle.row_ram.specs.Cells.{Does}
use Rattle.row_ram_pair.specs.Groups.{loads, exchanges}
use Rattle.row_ram_pair.specs.Ends.{hl_loaded}
use Rattle.laws.proofs.Among.{Each, end, ◌by◌&◌}
use Rattle.row_ram.proofs.Absent.{Stopped}

module _ (m : Core) (a b : ℕ) (l : List ℕ) where
  pub ldhl : ltb (at_x m a) 372 ≡ true → ltb (beside_x m a) 372 ≡ true → Does m 6 a b l l (Ok (hl_loaded m (get_or l (beside_x m a) 0) (get_or l (at_x m a) 0)))
  unfolding line_at lines work_of put_step made flag_after
  ldhl h g = record { same = λ rom options. rw (h, g) }

  pub exhl : ltb (at_x m a) 372 ≡ true → ltb (beside_x m a) 372 ≡ true → Does m 46 a b l (set (set l (at_x m a) m.regs.lr) (beside_x m a) m.regs.hr) (Ok (hl_loaded m (get_or (set l (at_x m a) m.regs.lr) (beside_x m a) 0) (get_or l (at_x m a) 0)))
  unfolding line_at lines work_of exchange_step flag_after
  exhl h g = record { same = λ rom options. rw (h, g) }

  pub absent-loaded : (there : Bool) → ltb (beside_x m a) 372 ≡ there → ltb (at_x m a) 372 ≡ false → Each (Stopped m a b l) loads
  unfolding line_at lines work_of put_step made
  absent-loaded true g h = 6 by record { same = λ rom options. rw (h, g) } & end
  absent-loaded false g h = 6 by record { same = λ rom options. rw (h, g) } & end

  pub absent-loaded-beside : (there : Bool) → ltb (at_x m a) 372 ≡ there → ltb (beside_x m a) 372 ≡ false → Each (Stopped m a b l) loads
  unfolding line_at lines work_of put_step made
  absent-loaded-beside true g h = 6 by record { same = λ rom options. rw (g, h) } & end
  absent-loaded-beside false g h = 6 by record { same = λ rom options. rw (g, h) } & end

  pub absent-exchanged : (there : Bool) → ltb (beside_x m a) 372 ≡ there → ltb (at_x m a) 372 ≡ false → Each (Stopped m a b l) exchanges
  unfolding line_at lines work_of exchange_step
  absent-exchanged true g h = 46 by record { same = λ rom options. rw (h, g) } & end
  absent-exchanged false g h = 46 by record { same = λ rom options. rw (h, g) } & end

  pub absent-exchanged-beside : (there : Bool) → ltb (at_x m a) 372 ≡ there → ltb (beside_x m a) 372 ≡ false → Each (Stopped m a b l) exchanges
  unfolding line_at lines work_of exchange_step
  absent-exchanged-beside true g h = 46 by record { same = λ rom options. rw (g, h) } & end
  absent-exchanged-beside false g h = 46 by record { same = λ rom options. rw (g, h) } & end
