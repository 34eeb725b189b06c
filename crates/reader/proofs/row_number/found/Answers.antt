-- `reader::row_number::found` meets its contract.
use mathlib.Core.Path.{refl, ap, ◌∙◌}
use mathlib.Core.List.{[], ◌∷◌}
use Prim.Native.Nat.{ℕ, ◌/◌, ◌%◌, ◌<◌}
use native.Mathlib.Omega.{arith}
use lib.Dec.{eqb, ltb, ltb→lt}
use borrow.Author.Rules.{rules}
use Rattle.laws.proofs.Computed.{rest_at}
use Rattle.sheet.specs.Reading.{insn, row_number, row_with}
use Rattle.std.specs.Prelude.{Ok}
use Rattle.reader.proofs.row_number.Arms.{row_is}
use Rattle.reader.proofs.row_number.found.Goals as goal

pub returns-in-4 : goal.returns-in-4
returns-in-4 c ds = rw c.in-4.is (c.family_4.ensures (c.args.b2 / 16 ∷ c.args.b2 % 16 ∷ ds))

pub returns-in-5 : goal.returns-in-5
returns-in-5 c ds = rw c.in-5.is (c.family_5.ensures ds)

pub returns-in-6 : goal.returns-in-6
returns-in-6 c ds = rw c.in-6.is (c.family_6.ensures (c.args.b2 / 16 ∷ c.args.b2 % 16 ∷ ds))

pub returns-in-7 : goal.returns-in-7
returns-in-7 c ds = rw (c.numbered.ensures, c.in-7.is) (c.row_7.ensures (c.args.b1 / 16 ∷ c.args.b1 % 16 ∷ c.args.b2 / 16 ∷ c.args.b2 % 16 ∷ ds))

pub returns-in-8 : goal.returns-in-8
returns-in-8 c ds = rw (c.with_both.ensures, c.in-8.is) (unfold row_number row_with in refl)

pub returns-in-9 : goal.returns-in-9
returns-in-9 c ds = rw (c.with_both-in-9.ensures, c.in-9.is) (unfold row_number row_with in refl)

pub returns-in-10 : goal.returns-in-10
returns-in-10 c ds = rw (c.with_both-in-10.ensures, c.in-10.is) (unfold row_number row_with in refl)

pub returns-in-11 : goal.returns-in-11
returns-in-11 c ds = rw (c.with_both-in-11.ensures, c.in-11.is) (unfold row_number row_with in refl)

pub returns-in-12 : goal.returns-in-12
returns-in-12 c ds = rw c.in-12.is (unfold row_number row_with in ap (λ (n : ℕ). Ok (insn 48 n 0)) (omega arith))

pub returns-in-13 : goal.returns-in-13
returns-in-13 c ds = rw (c.with_both-in-13.ensures, c.in-13.is) (unfold row_number row_with in refl)

pub returns-in-14 : goal.returns-in-14
returns-in-14 c ds = rw (c.with_both-in-14.ensures, c.in-14.is) (unfold row_number row_with in refl)

pub returns-in-15 : goal.returns-in-15
returns-in-15 c ds = rw (c.with_both-in-15.ensures, c.in-15.is) (c.row_f.ensures (c.args.b1 / 16 ∷ c.args.b1 % 16 ∷ c.args.b2 / 16 ∷ c.args.b2 % 16 ∷ ds))

pub returns-in_default : goal.returns-in_default
returns-in_default c ds = rw c.with_both-in_default.ensures (unfold row_with in (let h : (c.args.b0 / 16) < 4 = ltb→lt (c.args.b0 / 16) 4 (rest_at (λ k. ltb k 4) (15 ∷ 14 ∷ 13 ∷ 12 ∷ 11 ∷ 10 ∷ 9 ∷ 8 ∷ 7 ∷ 6 ∷ 5 ∷ 4 ∷ []) 16 tt (c.args.b0 / 16) (omega arith) (search rules)) in ap (λ (n : ℕ). Ok (insn 47 n 0)) (omega arith)) ∙ row_is 47 _ (rest_at (λ k. eqb (row_number (k ∷ c.args.b0 % 16 ∷ c.args.b1 / 16 ∷ c.args.b1 % 16 ∷ c.args.b2 / 16 ∷ c.args.b2 % 16 ∷ ds)) 47) (15 ∷ 14 ∷ 13 ∷ 12 ∷ 11 ∷ 10 ∷ 9 ∷ 8 ∷ 7 ∷ 6 ∷ 5 ∷ 4 ∷ []) 16 (unfold row_number in tt) (c.args.b0 / 16) (omega arith) (search rules)))
