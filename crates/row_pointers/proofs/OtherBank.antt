-- With P9.3 set each row of a pointer or a timer stops.
use mathlib.Core.Path.{◌≡◌}
use mathlib.Core.Bool.{false}
use Prim.Native.Nat.{ℕ}
use lib.Dec.{eqb}
use Rattle.std.specs.Prelude.{Err}
use Rattle.numbers.specs.declared.Stop.{Stop}
use Rattle.sheet.specs.Table.{lines, line_at}
use Rattle.alu.specs.Making.{made}
use Rattle.alu.specs.Flags.{flag_after}
use Rattle.record.specs.Ram.{bank_of}
use Rattle.record.specs.declared.Core.{Core}
use Rattle.row.specs.Steps.{put_step}
use Rattle.row.specs.Rows.{work_of}
use Rattle.row_pointers.specs.Groups.{load_pointer, load_timer, store_pointer, store_timer}
use Rattle.row_pointers.specs.Pointed.{Leaves}
use Rattle.laws.proofs.Among.{Each, end, ◌by◌&◌}

abbrev pub Stops : Core → ℕ → Type 0
Stops m row = Leaves m row (Err Stop.AbsentRamAddress)

module _ (m : Core) (bank : eqb (bank_of m) 0 ≡ false) where
  pub load-pointer-stops : Each (Stops m) load_pointer
  unfolding line_at lines work_of put_step made flag_after
  load-pointer-stops =
      88 by record { same = λ rom options a b l. rw bank } &
      91 by record { same = λ rom options a b l. rw bank } &
      90 by record { same = λ rom options a b l. rw bank } &
      89 by record { same = λ rom options a b l. rw bank } &
      end

  pub load-timer-stops : Each (Stops m) load_timer
  unfolding line_at lines work_of put_step made flag_after
  load-timer-stops =
      92 by record { same = λ rom options a b l. rw bank } &
      97 by record { same = λ rom options a b l. rw bank } &
      96 by record { same = λ rom options a b l. rw bank } &
      95 by record { same = λ rom options a b l. rw bank } &
      94 by record { same = λ rom options a b l. rw bank } &
      93 by record { same = λ rom options a b l. rw bank } &
      end

  pub store-pointer-stops : Each (Stops m) store_pointer
  unfolding line_at lines work_of put_step made flag_after
  store-pointer-stops =
      98 by record { same = λ rom options a b l. rw bank } &
      101 by record { same = λ rom options a b l. rw bank } &
      100 by record { same = λ rom options a b l. rw bank } &
      99 by record { same = λ rom options a b l. rw bank } &
      end

  pub store-timer-stops : Each (Stops m) store_timer
  unfolding line_at lines work_of put_step made flag_after
  store-timer-stops =
      102 by record { same = λ rom options a b l. rw bank } &
      107 by record { same = λ rom options a b l. rw bank } &
      106 by record { same = λ rom options a b l. rw bank } &
      105 by record { same = λ rom options a b l. rw bank } &
      104 by record { same = λ rom options a b l. rw bank } &
      103 by record { same = λ rom options a b l. rw bank } &
      end
