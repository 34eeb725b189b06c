-- One step of the operation column: a nibble made and put, two exchanged, or the data pointer stepped.
use Rattle.std.specs.Prelude.{ℕ, ◌+◌, ◌%◌, min, false, eqb}
use Rattle.laws.specs.Choice.{pick}
use Rattle.sheet.specs.Operation.{Op, Place, Step}
use Rattle.alu.specs.Making.{made, value_and_carry}
use Rattle.alu.specs.declared.Made.{Made}
use Rattle.record.specs.declared.Machine.{Machine}
use Rattle.row.specs.Places.{Around, get_of, after_reading, put_of, with_pointers}

-- a stop or 0, what the flags speak of, and the record, which a stop leaves unsaid
pub record Did : Type 0 where
  pub stop : ℕ
  pub made : Made
  pub machine : Machine

-- of two stops the one that document 01's table has first
abbrev pub first_of : ℕ → ℕ → ℕ
first_of s t = pick (eqb s 0) t (pick (eqb t 0) s (min s t))

abbrev pub made_of : Machine → Around → Op → Place → Place → Made
made_of m w o x y = made o (get_of m w x).value (get_of m w y).value m.core.regs.cf

unfoldable pub put_step : Machine → Around → Place → Op → Place → Place → Did
put_step m w d o x y = record {
  stop =
      first_of (first_of (get_of m w x).stop (get_of m w y).stop)
      (put_of (after_reading m w x) w d (made_of m w o x y).value).stop;
  made = made_of m w o x y;
  machine = (put_of (after_reading m w x) w d (made_of m w o x y).value).machine;
}

-- the flags speak of "the one ACC receives": in the rows that mark Z, ACC is the first place
unfoldable pub exchange_step : Machine → Around → Place → Place → Did
exchange_step m w d x = record {
  stop = first_of (get_of m w d).stop (get_of m w x).stop;
  made = value_and_carry (get_of m w x).value false;
  machine = (put_of (put_of m w d (get_of m w x).value).machine w x (get_of m w d).value).machine;
}

-- "DP + 1 wraps at 4096"
abbrev pub pointer_step : Machine → Did
pointer_step m = record {
  stop = 0;
  made = value_and_carry 0 false;
  machine = with_pointers m (record { sp = m.core.ptrs.sp; dp = (m.core.ptrs.dp + 1) % 4096 });
}

abbrev pub operation_step : Machine → Around → Step → Did
operation_step m w (Step.put d o x y) = put_step m w d o x y
operation_step m w (Step.exchange d x) = exchange_step m w d x
operation_step m w Step.DP+1 = pointer_step m
