-- `reader::row_number::row_6f` meets its contract.
use mathlib.Core.Path.{ap}
use mathlib.Core.List.{[], ◌∷◌}
use Prim.Native.Nat.{ℕ, ◌%◌}
use native.Mathlib.Omega.{arith}
use borrow.Author.Rules.{rules}
use Rattle.sheet.specs.Reading.{insn, row_number, row_with}
use Rattle.std.specs.Prelude.{Ok}
use Rattle.reader.proofs.row_number.Arms.{by-rest}
use Rattle.reader.proofs.row_number.row_6f.Goals as goal

pub returns-in-0 : goal.returns-in-0
returns-in-0 c ds = rw c.in-0.is (unfold row_number row_with in ap (λ (p : ℕ). Ok (insn 77 0 p)) (omega arith))

pub returns-in-1 : goal.returns-in-1
returns-in-1 c ds = rw c.in-1.is (unfold row_number row_with in ap (λ (p : ℕ). Ok (insn 77 0 p)) (omega arith))

pub returns-in-4 : goal.returns-in-4
returns-in-4 c ds = rw c.in-4.is (unfold row_number row_with in ap (λ (p : ℕ). Ok (insn 74 0 p)) (omega arith))

pub returns-in-8 : goal.returns-in-8
returns-in-8 c ds = rw c.in-8.is (unfold row_number row_with in ap (λ (p : ℕ). Ok (insn 78 0 p)) (omega arith))

pub returns-in-9 : goal.returns-in-9
returns-in-9 c ds = rw c.in-9.is (unfold row_number row_with in ap (λ (p : ℕ). Ok (insn 78 0 p)) (omega arith))

pub returns-in-12 : goal.returns-in-12
returns-in-12 c ds = rw c.in-12.is (unfold row_number row_with in ap (λ (p : ℕ). Ok (insn 75 0 p)) (omega arith))

pub returns-in_default : goal.returns-in_default
returns-in_default c ds = unfold row_with in by-rest 6 15 0 (c.args.b1 % 16) ds (12 ∷ 9 ∷ 8 ∷ 4 ∷ 1 ∷ 0 ∷ []) (unfold row_number in tt) c.args.b1 (omega arith) (search rules)
