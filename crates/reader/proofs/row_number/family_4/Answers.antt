-- `reader::row_number::family_4` meets its contract.
use mathlib.Core.Path.{refl, ap, ◌∙◌}
use mathlib.Core.List.{[], ◌∷◌}
use Prim.Native.Nat.{ℕ, ◌/◌, ◌%◌, ◌<◌}
use native.Mathlib.Omega.{arith}
use lib.Dec.{eqb, ltb, ltb→lt}
use borrow.Author.Rules.{rules}
use Rattle.laws.proofs.Computed.{rest_at}
use Rattle.sheet.specs.Reading.{insn, row_number, row_with}
use Rattle.std.specs.Prelude.{Ok}
use Rattle.reader.proofs.row_number.Arms.{row_is, aligned-reads}
use Rattle.reader.proofs.row_number.family_4.Goals as goal

pub returns-in-8 : goal.returns-in-8
returns-in-8 c ds = rw (c.with_both.ensures, c.in-8.is) (unfold row_number row_with in refl)

pub returns-in-9 : goal.returns-in-9
returns-in-9 c ds = rw (c.with_both-in-9.ensures, c.in-9.is) (unfold row_number row_with in refl)

pub returns-in-10 : goal.returns-in-10
returns-in-10 c ds = rw (c.with_both-in-10.ensures, c.in-10.is) (unfold row_number row_with in refl)

pub returns-in-11 : goal.returns-in-11
returns-in-11 c ds = rw (c.with_both-in-11.ensures, c.in-11.is) (unfold row_number row_with in refl)

pub returns-in-12 : goal.returns-in-12
returns-in-12 c ds = rw (c.by_aligned_x.ensures, c.in-12.is) (aligned-reads 12 46 ds (unfold row_with in λ h m. refl) (unfold row_with in λ h m. refl) c.args.b1 (omega arith) (unfold row_number in tt) (unfold row_number in tt))

pub returns-in-13 : goal.returns-in-13
returns-in-13 c ds = rw (c.with_both-in-13.ensures, c.in-13.is) (unfold row_number row_with in refl)

pub returns-in-14 : goal.returns-in-14
returns-in-14 c ds = rw (c.by_aligned_x-in-14.ensures, c.in-14.is) (aligned-reads 14 6 ds (unfold row_with in λ h m. refl) (unfold row_with in λ h m. refl) c.args.b1 (omega arith) (unfold row_number in tt) (unfold row_number in tt))

pub returns-in-15 : goal.returns-in-15
returns-in-15 c ds = rw (c.with_both-in-15.ensures, c.in-15.is) (unfold row_number row_with in refl)

pub returns-in_default : goal.returns-in_default
returns-in_default c ds = unfold row_with in (let h : c.args.l < 8 = ltb→lt c.args.l 8 (rest_at (λ k. ltb k 8) (15 ∷ 14 ∷ 13 ∷ 12 ∷ 11 ∷ 10 ∷ 9 ∷ 8 ∷ []) 16 tt c.args.l (omega arith) (search rules)) in ap (λ (a : ℕ). Ok (insn 71 a 0)) (omega arith)) ∙ row_is 71 _ (rest_at (λ k. eqb (row_number (4 ∷ k ∷ c.args.b1 / 16 ∷ c.args.b1 % 16 ∷ ds)) 71) (15 ∷ 14 ∷ 13 ∷ 12 ∷ 11 ∷ 10 ∷ 9 ∷ 8 ∷ []) 16 (unfold row_number in tt) c.args.l (omega arith) (search rules))
