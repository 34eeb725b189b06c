-- RET and RTI, and their stop, are their lines of the table: by the test of SP, then by computation.
use mathlib.Core.Path.{◌≡◌, ◌∙◌}
use mathlib.Core.List.{List}
use mathlib.Core.Bool.{true, false}
use Prim.Native.Nat.{ℕ}
use Rattle.std.specs.Prelude.{Ok, Err}
use Rattle.laws.specs.Among.{among}
use Rattle.numbers.specs.declared.Stop.{Stop}
use Rattle.sheet.specs.Table.{lines, line_at}
use Rattle.record.specs.With.{assembled}
use Rattle.record.specs.Stack.{can_pop, popped, flags_returned}
use Rattle.record.specs.declared.Core.{Core}
use Rattle.row.specs.Rows.{spent}
use Rattle.row.specs.Turns.{turned}
use Rattle.row.specs.declared.Turn.{Turn}
use Rattle.row_control.specs.Groups.{returns}
use Rattle.row_control.specs.Turns.{Comes}
use Rattle.row_control.proofs.Pairs.{at_both}

module _ (m : Core) (l k : List ℕ) (x : Turn) where
  pub ret : can_pop m ≡ true → turned x k ≡ spent 2 (popped (assembled m l)) → Comes m 73 l k (Ok x)
  unfolding line_at lines
  ret h g = record { turns = λ a. record { same = λ rom options b. g ∙ rw h } }

  pub rti : can_pop m ≡ true → turned x k ≡ spent 2 (flags_returned (assembled m l)) → Comes m 86 l k (Ok x)
  unfolding line_at lines
  rti h g = record { turns = λ a. record { same = λ rom options b. g ∙ rw h } }

module _ (m : Core) (l : List ℕ) where
  ret-stop : can_pop m ≡ false → Comes m 73 l l (Err Stop.StackLevel)
  unfolding line_at lines
  ret-stop h = record { turns = λ a. record { same = λ rom options b. rw h } }

  rti-stop : can_pop m ≡ false → Comes m 86 l l (Err Stop.StackLevel)
  unfolding line_at lines
  rti-stop h = record { turns = λ a. record { same = λ rom options b. rw h } }

  pub stop : (row : ℕ) → can_pop m ≡ false → among returns row ≡ true → Comes m row l l (Err Stop.StackLevel)
  stop row h g = at_both (λ (n : ℕ). Comes m n l l (Err Stop.StackLevel)) 86 73 row (rti-stop h) (ret-stop h) g
