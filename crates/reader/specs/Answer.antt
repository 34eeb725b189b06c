-- The public reader's promise: "The reader answers 30 with no record"; refusals in document 01's order, 1, 2, 20, 30, and 35 with 30. Q-6: "Refusals: 1 by device size .. 2 for such a P3, or one over 15, in record or input".
use Rattle.std.specs.Prelude.{ℕ, List, [], ◌∷◌, eqb, ltb, length, Result, Ok, Err}
use Rattle.numbers.specs.Sizes.{addresses}
use Rattle.laws.specs.Choice.{pick}
use Rattle.numbers.specs.ComesBack.{Paper, answered, refused, image_of_another_size, record_outside_the_ranges, address_over_8191}
use Rattle.numbers.specs.Numbered.{refusal_number}
use Rattle.numbers.specs.declared.Refusal.{Refusal}
use Rattle.device.specs.Device.{image_size, is_banked, rom_of}
use Rattle.device.specs.declared.Device.{Device}
use Rattle.device.specs.declared.Device.TheVariants.{Em73862, Em73P982}
use Rattle.sheet.specs.Reading.{Read, read_at, bytes_of, cycles_of}
use Rattle.sheet.specs.declared.Insn.{Insn}
use Rattle.sheet.specs.Refusing.{refusal_of}
use Rattle.reader.specs.declared.Decoded.{Decoded}

-- the values of a row: its number, its two operands, its bytes and its cycles
abbrev pub values_of : Insn → ℕ → ℕ → List ℕ
values_of i n t = i.row ∷ i.a ∷ i.b ∷ n ∷ t ∷ []

-- document 01's number and values for each case of the reader's answer
abbrev pub paper_of : Result Decoded Refusal → Paper
paper_of (Ok d) = answered (values_of d.insn d.bytes d.cycles)
paper_of (Err refusal) = refused (refusal_number refusal)

abbrev pub paper_of_code : Read → Paper
paper_of_code (Ok i) = answered (values_of i (bytes_of i.row) (cycles_of i.row))
paper_of_code (Err why) = refused (refusal_number (refusal_of why))

-- Q-6: "The reader and the bound take P3 as an input": of the EM73P982. The EM73862 has no P3, and an input for it is not looked at; its window is that of 0
abbrev pub p3_given : Device → ℕ → ℕ
p3_given Em73862 p3 = 0
p3_given Em73P982 p3 = p3

-- what has to come back of a device's image, P3 and an address
abbrev pub read_paper : Device → List ℕ → ℕ → ℕ → Paper
read_paper d image p3 at =
    pick (eqb (length image) (image_size d))
    (pick (is_banked d p3)
    (pick (ltb at addresses) (paper_of_code (read_at (rom_of image p3) at)) (refused address_over_8191))
    (refused record_outside_the_ranges))
    (refused image_of_another_size)
