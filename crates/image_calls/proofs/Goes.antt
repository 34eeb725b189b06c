-- The rows whose first operand is y or p, and how far a row goes.
use mathlib.Core.Path.{◌≡◌}
use mathlib.Core.Bool.{Bool, true, false}
use Prim.Native.Nat.{ℕ, ◌+◌, ◌*◌, ◌<◌}
use native.Mathlib.Omega.{arith}
use lib.Dec.{T, eqb}
use Rattle.std.specs.Option.{unwrap_or}
use Rattle.laws.specs.Choice.{pick}
use Rattle.laws.specs.Among.{among}
use Rattle.laws.proofs.Computed.{below, at}
use Rattle.sheet.proofs.FirstBytes.{same, same_of}
use Rattle.sheet.specs.Operation.{Operation}
use Rattle.sheet.specs.Operation.Operation.{work, branch, call, return, return_flag, IL⟵IL-and-r, no_operation}
use Rattle.sheet.specs.Operation.Target.{page, half, whole}
use Rattle.sheet.specs.Operation.Entry.{long, short}
use Rattle.sheet.specs.Table.{line_at}
use Rattle.sheet.specs.declared.Insn.{Insn}
use Rattle.sheet.specs.Flow.{goes_by, goes_to}
use Rattle.image_calls.specs.Operands.{begins_in_b, from_b}

all_among : T (below 256 (λ n. same (among from_b n) (begins_in_b n)))
unfolding begins_in_b line_at
all_among = tt

pub among_them : (row : ℕ) → row < 256 → among from_b row ≡ begins_in_b row
among_them row h = same_of (among from_b row) (begins_in_b row) (at (λ n. same (among from_b n) (begins_in_b n)) 256 all_among row h)

entry_lt : (a : ℕ) → a < 8192 → (t : Bool) → pick t 0x86 (8 * a + 6) < 65536
entry_lt a h true = omega arith
entry_lt a h false = omega arith

module _ (from a : ℕ) (h : from < 8192) (k : a < 8192) where
  by-lt : (o : Operation) → unwrap_or (goes_by o from a) 8192 < 65536
  by-lt (work s t) = omega arith
  by-lt (branch page) = omega arith
  by-lt (branch half) = omega arith
  by-lt (branch whole) = omega arith
  by-lt (call long) = omega arith
  by-lt (call short) = entry_lt a k (eqb a 0)
  by-lt return = omega arith
  by-lt return_flag = omega arith
  by-lt (IL⟵IL-and-r e) = omega arith
  by-lt no_operation = omega arith

pub goes_lt : (from : ℕ) (i : Insn) → from < 8192 → i.a < 8192 → unwrap_or (goes_to from i) 8192 < 65536
unfolding goes_to
goes_lt from i h k = by-lt from i.a h k (line_at i.row).operation
