-- What a group's function asks follows from validity and the group; what it gives is what the definition says.
use mathlib.Core.Path.{◌≡◌, refl}
use mathlib.Core.List.{List}
use Prim.Native.Nat.{ℕ, ◌+◌}
use Rattle.std.specs.Prelude.{Result, Ok, Err}
use Rattle.numbers.specs.declared.Stop.{Stop}
use Rattle.device.specs.declared.Options.{Options}
use Rattle.sheet.specs.declared.Insn.{Insn}
use Rattle.record.specs.declared.Core.{Core}
use Rattle.row_registers.specs.Quiet.{Quiet}
use Rattle.row_ends.specs.declared.Act.{Act}
use Rattle.row_ram.specs.Cells.{Does}
use Rattle.row_pointers.specs.Pointed.{Leaves, loaded}
use Rattle.row_pointers.specs.FromRom.{FromRom}
use Rattle.row_pointers.specs.declared.Pointed.{Pointed}
use Rattle.row_control.specs.Turns.{Turns}
use Rattle.row.specs.declared.Turn.{Turn}
use Rattle.row_ports.specs.Ported.{Ported}
use Rattle.row_dispatch.specs.Performs.{Performs, turn_of, turn_by}

module _ (rom : ℕ → ℕ) (options : Options) (m : Core) (i : Insn) where
  -- a row that leaves RAM as it was
  pub quiet : (l : List ℕ) (x : Act) → Quiet m i.row i.a x → Performs rom options m i l l (Ok (turn_of m x))
  quiet l x q = record { same = q.same rom options i.b l }

  pub loads : (l : List ℕ) (x : Act) → Leaves m i.row (loaded m (Ok x)) → Performs rom options m i l l (Ok (turn_of m x))
  loads l x q = record { same = q.same rom options i.a i.b l }

  pub points : (l : List ℕ) (x : Pointed) → Leaves m i.row (Ok x) → Performs rom options m i l l (Ok (turn_by m x))
  points l x q = record { same = q.same rom options i.a i.b l }

  pub points_not : (l : List ℕ) (s : Stop) → Leaves m i.row (Err s) → Performs rom options m i l l (Err s)
  points_not l s q = record { same = q.same rom options i.a i.b l }

  pub rom_read : (row : ℕ) (l : List ℕ) (x : Pointed) → i.row ≡ row → FromRom m row (rom (0x1000 + m.ptrs.dp)) x → Performs rom options m i l l (Ok (turn_by m x))
  rom_read row l x e q = record { same = rw e (q.same rom options i.a i.b l refl) }

  -- a row that reads or writes RAM
  pub acted : (l k : List ℕ) (x : Act) → Does m i.row i.a i.b l k (Ok x) → Performs rom options m i l k (Ok (turn_of m x))
  acted l k x d = record { same = d.same rom options }

  pub stopped : (l k : List ℕ) (s : Stop) → Does m i.row i.a i.b l k (Err s) → Performs rom options m i l k (Err s)
  stopped l k s d = record { same = d.same rom options }

  -- a row that moves more of the scalars
  pub turns : (l k : List ℕ) (x : Result Turn Stop) → Turns m i.row i.a l k x → Performs rom options m i l k x
  turns l k x q = record { same = q.same rom options i.b }

  -- a row of the ports
  pub ported : (l k : List ℕ) (x : Result Turn Stop) → Ported options m i.row i.a i.b l k x → Performs rom options m i l k x
  ported l k x q = record { same = q.same rom }

  pub ported_by : (row : ℕ) (l k : List ℕ) (x : Result Turn Stop) → i.row ≡ row → Ported options m row i.a i.b l k x → Performs rom options m i l k x
  ported_by row l k x e q = ported l k x (rw e q)
