-- The layout loses nothing: a buffer tells which record it holds.
use Prim.Native.Nat.{ℕ, ◌+◌, ◌*◌, ◌/◌, ◌%◌, ◌<◌}
use mathlib.Core.Bool.{Bool, true, false}
use mathlib.Core.List.{List}
use mathlib.Core.Path.{◌≡◌, refl, sym, ap, ◌∙◌}
use native.Mathlib.Omega.{arith}
use lib.Dec.{eqb}
use lib.ListN.{get_or, take, drop}
use Rattle.laws.specs.Choice.{pick}
use Rattle.bits.specs.Bits.{bit_of}
use Rattle.ports.specs.declared.Mode.{Mode}
use Rattle.record.specs.declared.Machine.{Machine}
use Rattle.record_bytes.specs.Layout.{two, four, mode_number, latch_bytes, nibbles_of, others_of, record_bytes, Holds}
use Rattle.record_bytes.specs.Unpacked.{FlagsFit}

-- a number from its bytes, a flag and a mode from theirs
abbrev two_at : List ℕ → ℕ → ℕ
two_at l i = get_or l i 0 + 256 * get_or l (i + 1) 0

abbrev flag_at : List ℕ → ℕ → Bool
flag_at l i = eqb (get_or l i 0) 1

abbrev mode_from : ℕ → Mode
mode_from n = pick (eqb n 0) Mode.Running (pick (eqb n 1) Mode.Sleep Mode.Hold)

abbrev machine_from : List ℕ → Machine
machine_from l = record {
  core = record {
    regs = record { acc = get_or l 0 0; hr = get_or l 1 0; lr = get_or l 2 0; cf = flag_at l 24; zf = flag_at l 25; sf = flag_at l 26 };
    pc = two_at l 16;
    ptrs = record { sp = get_or l 3 0; dp = two_at l 18 };
    ints = record { ei = flag_at l 27; il = get_or l 28 0; mask = get_or l 4 0; due = get_or l 38 0 };
    timers = record { base = two_at l 29 + 65536 * two_at l 31; ta = two_at l 20; tb = two_at l 22 };
    ports =
        record {
          p3 = get_or l 39 0;
          p4 = get_or l 5 0;
          p5 = get_or l 40 0;
          p6 = get_or l 41 0;
          p8 = get_or l 6 0;
          p9 = get_or l 7 0;
          p16 = get_or l 8 0;
          p17 = get_or l 42 0;
          p23 = get_or l 9 0;
          p24 = get_or l 10 0;
          p25 = get_or l 11 0;
          p27 = get_or l 12 0;
          p28 = get_or l 13 0;
          p29 = get_or l 14 0;
          p30 = get_or l 15 0;
        };
    pins = record { p0 = get_or l 33 0; p8 = get_or l 34 0; p4 = get_or l 35 0; speech = get_or l 43 0 };
    mode = mode_from (get_or l 36 0);
    mark = flag_at l 37;
  };
  ram = drop 44 l;
}

two_back : (n : ℕ) → n % 256 + 256 * (n / 256) ≡ n
two_back n = omega arith

four_back : (n : ℕ) → n % 65536 % 256 + 256 * (n % 65536 / 256) + 65536 * (n / 65536 % 256 + 256 * (n / 65536 / 256)) ≡ n
four_back n = omega arith

flag_back : (b : Bool) → eqb (bit_of b) 1 ≡ b
flag_back true = refl
flag_back false = refl

mode_back : (m : Mode) → mode_from (mode_number m) ≡ m
unfolding mode_number
mode_back Mode.Running = refl
mode_back Mode.Sleep = refl
mode_back Mode.Hold = refl

back : (m : Machine) → machine_from (record_bytes m) ≡ m
unfolding nibbles_of others_of latch_bytes two four
back m =
    rw (two_back m.core.pc, two_back m.core.ptrs.dp, two_back m.core.timers.ta, two_back m.core.timers.tb, four_back m.core.timers.base, flag_back m.core.regs.cf, flag_back m.core.regs.zf, flag_back m.core.regs.sf, flag_back m.core.ints.ei, mode_back m.core.mode, flag_back m.core.mark)

pub same_bytes : (m n : Machine) → record_bytes m ≡ record_bytes n → m ≡ n
same_bytes m n e = sym (back m) ∙ (ap machine_from e ∙ back n)

pub one_record : {bytes : List ℕ} (m n : Machine) → Holds bytes m → Holds bytes n → m ≡ n
one_record m n h k = same_bytes m n (sym h.same ∙ k.same)

bit_lt : (b : Bool) → bit_of b < 2
bit_lt true = omega arith
bit_lt false = omega arith

mode_lt : (m : Mode) → mode_number m < 3
unfolding mode_number
mode_lt Mode.Running = omega arith
mode_lt Mode.Sleep = omega arith
mode_lt Mode.Hold = omega arith

-- what a record's bytes meet, whatever the record
pub flags_of : (m : Machine) → FlagsFit (take 44 (record_bytes m))
unfolding nibbles_of others_of latch_bytes two four
flags_of m =
    record { cf = bit_lt m.core.regs.cf; zf = bit_lt m.core.regs.zf; sf = bit_lt m.core.regs.sf; ei = bit_lt m.core.ints.ei; mode = mode_lt m.core.mode; mark = bit_lt m.core.mark }
