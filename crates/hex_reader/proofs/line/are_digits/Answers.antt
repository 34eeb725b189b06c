-- `hex_reader::line::are_digits` meets its contract.
use mathlib.Core.Path.{◌≡◌}
use mathlib.Core.Bool.{true}
use lib.ListN.{get_or}
use borrow.Author.Rules.{rules}
use Rattle.std.specs.Prelude.{◌↔◌, IsTrue, EachIndex, is_some}
use Rattle.text.specs.Hexadecimal.{digit_to}
use Rattle.hex_reader.proofs.line.Characters.{digits_by}
use Rattle.hex_reader.proofs.line.are_digits.Goals as goal

pub returns : goal.returns
returns c = let h : IsTrue c.all.result ↔ EachIndex c.args.characters.now (λ k. is_some (digit_to 16 (get_or c.args.characters.now k 0)) ≡ true) = search rules in digits_by c.all.result c.args.characters.now h
