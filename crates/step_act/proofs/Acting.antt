-- From what the parts give to what the definitions of a turn say.
use mathlib.Core.Path.{◌≡◌, refl, sym, subst, ◌∙◌}
use mathlib.Core.Bool.{true, false}
use mathlib.Core.List.{List}
use Prim.Native.Nat.{ℕ, ◌<◌}
use borrow.Author.Tests.{lt-ltb}
use Rattle.std.specs.Prelude.{Result, Ok, Err}
use Rattle.numbers.specs.declared.Stop.{Stop}
use Rattle.device.specs.declared.Device.{Device}
use Rattle.device.specs.declared.Options.{Options}
use Rattle.sheet.specs.Reading.{read_at}
use Rattle.sheet.specs.Refusing.{stop_of}
use Rattle.sheet.specs.declared.Insn.{Insn}
use Rattle.sheet.specs.declared.NoRow.{NoRow}
use Rattle.record.specs.Stack.{can_push, accepted}
use Rattle.record.specs.Valid.{Valid}
use Rattle.record.specs.With.{assembled}
use Rattle.record.specs.declared.Core.{Core}
use Rattle.row.specs.Rows.{Done, spent}
use Rattle.row.specs.Turns.{turned, Gives}
use Rattle.row.specs.declared.Turn.{Turn}
use Rattle.row_dispatch.specs.Performs.{Performs}
use Rattle.step_act.specs.Act.{source_of, accept_of, run_read, run_one, accept_or_run, core_after, act_of}
use Rattle.step_act.proofs.Stops.{Agrees, none_passes}

module _ (m : Core) (l : List ℕ) (source : ℕ) where
  pub refuses : can_push m ≡ false → Gives (accept_of (assembled m l) source) m l (Err Stop.StackLevel)
  unfolding accept_of
  refuses h = record { same = rw h }

  pub accepts : (k : List ℕ) (x : Turn) → can_push m ≡ true → turned x k ≡ spent 2 (accepted (assembled m l) source) → Gives (accept_of (assembled m l) source) m k (Ok x)
  unfolding accept_of
  accepts k x h e = record { same = e ∙ rw h }

module _ (rom : ℕ → ℕ → ℕ) (options : Options) (m : Core) (l : List ℕ) where
  stops_of : (why : NoRow) → Gives (run_read (rom m.ports.p3) options (assembled m l) (Err why)) m l (Err (stop_of why))
  stops_of NoRow.Unassigned = record { same = refl }
  stops_of NoRow.PastEnd = record { same = refl }

  pub none_read : (why : NoRow) → read_at (rom m.ports.p3) m.pc ≡ Err why → Gives (run_one rom options (assembled m l)) m l (Err (stop_of why))
  unfolding run_one
  none_read why e = rw e (stops_of why)

module _ (rom : ℕ → ℕ → ℕ) (options : Options) (m : Core) (l k : List ℕ) where
  pub row_read : (i : Insn) (x : Result Turn Stop) → read_at (rom m.ports.p3) m.pc ≡ Ok i → Performs (rom m.ports.p3) options m i l k x → Gives (run_one rom options (assembled m l)) m k x
  unfolding run_one
  row_read i x e p = record { same = rw e p.same }

  pub turn-accepts : (due : ℕ) (x : Result Turn Stop) → due ≡ source_of m → due < 6 → Gives (accept_of (assembled m l) due) m k x → Gives (accept_or_run rom options (assembled m l)) m k x
  unfolding accept_or_run
  turn-accepts due x e h g = record { same = rw (← e, lt-ltb due 6 h) g.same }

  pub turn-runs : (x : Result Turn Stop) → source_of m ≡ 6 → Gives (run_one rom options (assembled m l)) m k x → Gives (accept_or_run rom options (assembled m l)) m k x
  unfolding accept_or_run
  turn-runs x h g = record { same = rw h g.same }

  pub time-passes : (x : Turn) (after : Core) → Gives (accept_or_run rom options (assembled m l)) m k (Ok x) → after ≡ core_after x.cycles x.core → Gives (act_of rom options (assembled m l)) m k (Ok (record { cycles = x.cycles; core = after }))
  unfolding act_of
  time-passes x after g e = record { same = rw (← g.same, e) }

  -- a stop takes no time
  pub none-passes : (s : Stop) → Agrees m → Gives (accept_or_run rom options (assembled m l)) m k (Err s) → Gives (act_of rom options (assembled m l)) m k (Err s)
  unfolding act_of
  none-passes s a g = record { same = rw (← g.same, none_passes m a) }

-- a valid answer's scalars and RAM are valid
pub given_valid : {d : Device} (y : Done) (m : Core) (k : List ℕ) (x : Turn) → Gives y m k (Ok x) → Valid d y.machine → Valid d (assembled x.core k)
given_valid {d} y m k x g v = subst (λ (y : Done). Valid d y.machine) (sym g.same) v
