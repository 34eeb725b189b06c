-- An absent address stops each of the rows that name a place in RAM.
use mathlib.Core.Path.{◌≡◌}
use mathlib.Core.Bool.{false}
use mathlib.Core.List.{List}
use Rattle.std.specs.Prelude.{Err}
use Prim.Native.Nat.{ℕ}
use lib.Dec.{ltb}
use Rattle.numbers.specs.declared.Stop.{Stop}
use Rattle.sheet.specs.Table.{lines, line_at}
use Rattle.alu.specs.Making.{made}
use Rattle.record.specs.Ram.{at_hl, at_x, at_y}
use Rattle.record.specs.declared.Core.{Core}
use Rattle.row.specs.Steps.{put_step, exchange_step}
use Rattle.row.specs.Rows.{work_of}
use Rattle.row_ram.specs.Groups.{read_by_hl, read_by_x, read_by_y, written_by_hl, written_by_x, written_by_y}
use Rattle.row_ram.specs.Cells.{Does}
use Rattle.laws.proofs.Among.{Each, end, ◌by◌&◌}

abbrev pub Stopped : Core → ℕ → ℕ → List ℕ → ℕ → Type 0
Stopped m a b l row = Does m row a b l l (Err Stop.AbsentRamAddress)

module _ (m : Core) (a b : ℕ) (l : List ℕ) where
  pub absent-read-by-hl : ltb (at_hl m) 372 ≡ false → Each (Stopped m a b l) read_by_hl
  unfolding line_at lines work_of put_step made
  absent-read-by-hl h =
      2 by record { same = λ rom options. rw h } &
      19 by record { same = λ rom options. rw h } &
      22 by record { same = λ rom options. rw h } &
      33 by record { same = λ rom options. rw h } &
      36 by record { same = λ rom options. rw h } &
      39 by record { same = λ rom options. rw h } &
      41 by record { same = λ rom options. rw h } &
      52 by record { same = λ rom options. rw h } &
      66 by record { same = λ rom options. rw h } &
      end

  pub absent-read-by-x : ltb (at_x m a) 372 ≡ false → Each (Stopped m a b l) read_by_x
  unfolding line_at lines work_of put_step made
  absent-read-by-x h =
      1 by record { same = λ rom options. rw h } &
      51 by record { same = λ rom options. rw h } &
      end

  pub absent-read-by-y : ltb (at_y b) 372 ≡ false → Each (Stopped m a b l) read_by_y
  unfolding line_at lines work_of put_step made
  absent-read-by-y h =
      50 by record { same = λ rom options. rw h } &
      64 by record { same = λ rom options. rw h } &
      69 by record { same = λ rom options. rw h } &
      end

  pub absent-written-by-hl : ltb (at_hl m) 372 ≡ false → Each (Stopped m a b l) written_by_hl
  unfolding line_at lines work_of put_step exchange_step made
  absent-written-by-hl h =
      10 by record { same = λ rom options. rw h } &
      11 by record { same = λ rom options. rw h } &
      12 by record { same = λ rom options. rw h } &
      14 by record { same = λ rom options. rw h } &
      25 by record { same = λ rom options. rw h } &
      28 by record { same = λ rom options. rw h } &
      31 by record { same = λ rom options. rw h } &
      34 by record { same = λ rom options. rw h } &
      37 by record { same = λ rom options. rw h } &
      40 by record { same = λ rom options. rw h } &
      45 by record { same = λ rom options. rw h } &
      56 by record { same = λ rom options. rw h } &
      60 by record { same = λ rom options. rw h } &
      end

  pub absent-written-by-x : ltb (at_x m a) 372 ≡ false → Each (Stopped m a b l) written_by_x
  unfolding line_at lines work_of put_step exchange_step made
  absent-written-by-x h =
      9 by record { same = λ rom options. rw h } &
      42 by record { same = λ rom options. rw h } &
      end

  pub absent-written-by-y : ltb (at_y b) 372 ≡ false → Each (Stopped m a b l) written_by_y
  unfolding line_at lines work_of put_step exchange_step made
  absent-written-by-y h =
      13 by record { same = λ rom options. rw h } &
      20 by record { same = λ rom options. rw h } &
      59 by record { same = λ rom options. rw h } &
      63 by record { same = λ rom options. rw h } &
      end
