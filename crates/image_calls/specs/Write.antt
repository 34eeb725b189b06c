-- What em73862_write answers, on numbers: include/em73862.h declares it.
use Rattle.std.specs.Prelude.{ℕ, ◌≡◌, length}
use Rattle.numbers.specs.ComesBack.{Paper, value_at}
use Rattle.sheet.specs.declared.Insn.{Insn}
use Rattle.writer.specs.Writing.{Written, Writes}
use Rattle.writer.specs.Writing.{paper_of as codePaper}
use Rattle.image_calls.specs.declared.write.WriteNumbers.{WriteNumbers}

-- the writer's answer as the call hands it on
pub record OfWrite (p : Paper) (n : WriteNumbers) : Type 0 where
  pub number : n.number ≡ p.number
  pub count : n.count ≡ length p.values
  pub b0 : n.b0 ≡ value_at p 0
  pub b1 : n.b1 ≡ value_at p 1
  pub b2 : n.b2 ≡ value_at p 2

-- write
pub record WriteCall (i : Insn) (number size b0 b1 b2 : ℕ) : Type 0 where
  pub r : Written
  pub writes : Writes i r
  pub answer : number ≡ (codePaper r).number
  pub bytes : size ≡ length (codePaper r).values
  pub first : b0 ≡ value_at (codePaper r) 0
  pub second : b1 ≡ value_at (codePaper r) 1
  pub third : b2 ≡ value_at (codePaper r) 2
