-- LCALL and SCALL, and their stop, are their lines of the table: by the test of SP, then by computation.
use mathlib.Core.Path.{◌≡◌, ◌∙◌}
use mathlib.Core.List.{List}
use mathlib.Core.Bool.{true, false}
use Prim.Native.Nat.{ℕ, ◌+◌, ◌%◌}
use Rattle.std.specs.Prelude.{Ok, Err}
use Rattle.laws.specs.Among.{among}
use Rattle.numbers.specs.declared.Stop.{Stop}
use Rattle.sheet.specs.Flow.{call_entry}
use Rattle.sheet.specs.Operation.Entry.{short}
use Rattle.sheet.specs.Table.{lines, line_at}
use Rattle.record.specs.With.{assembled}
use Rattle.record.specs.Stack.{can_push, called}
use Rattle.record.specs.declared.Core.{Core}
use Rattle.row.specs.Rows.{spent, call_of}
use Rattle.row.specs.Turns.{turned}
use Rattle.row.specs.declared.Turn.{Turn}
use Rattle.row_control.specs.Groups.{calls}
use Rattle.row_control.specs.Turns.{Turns}
use Rattle.row_control.proofs.Pairs.{at_both}

module _ (m : Core) (a : ℕ) (l k : List ℕ) (x : Turn) where
  pub lcall : can_push m ≡ true → turned x k ≡ spent 2 (called (assembled m l) ((m.pc + 2) % 8192) a) → Turns m 71 a l k (Ok x)
  unfolding line_at lines call_of
  lcall h g = record { same = λ rom options b. g ∙ rw h }

  pub scall : can_push m ≡ true → turned x k ≡ spent 2 (called (assembled m l) ((m.pc + 1) % 8192) (call_entry short a)) → Turns m 72 a l k (Ok x)
  unfolding line_at lines call_of
  scall h g = record { same = λ rom options b. g ∙ rw h }

module _ (m : Core) (a : ℕ) (l : List ℕ) where
  lcall-stop : can_push m ≡ false → Turns m 71 a l l (Err Stop.StackLevel)
  unfolding line_at lines call_of
  lcall-stop h = record { same = λ rom options b. rw h }

  scall-stop : can_push m ≡ false → Turns m 72 a l l (Err Stop.StackLevel)
  unfolding line_at lines call_of
  scall-stop h = record { same = λ rom options b. rw h }

  pub stop : (row : ℕ) → can_push m ≡ false → among calls row ≡ true → Turns m row a l l (Err Stop.StackLevel)
  stop row h g = at_both (λ (n : ℕ). Turns m n a l l (Err Stop.StackLevel)) 72 71 row (scall-stop h) (lcall-stop h) g
