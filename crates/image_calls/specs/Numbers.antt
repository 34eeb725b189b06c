-- The numbers of the reader's answer, as the calls hand them on.
use Rattle.std.specs.Prelude.{◌≡◌}
use Rattle.numbers.specs.ComesBack.{Paper, value_at}
use Rattle.sheet.specs.declared.Insn.{Insn}
use Rattle.image_calls.specs.declared.ReadNumbers.{ReadNumbers}

-- the instruction among the values of the reader's answer: 0 throughout where nothing was read
abbrev pub insn_of : Paper → Insn
insn_of p = record { row = value_at p 0; a = value_at p 1; b = value_at p 2 }

pub record OfRead (p : Paper) (n : ReadNumbers) : Type 0 where
  pub number : n.number ≡ p.number
  pub insn : n.insn ≡ insn_of p
  pub bytes : n.bytes ≡ value_at p 3
  pub cycles : n.cycles ≡ value_at p 4
