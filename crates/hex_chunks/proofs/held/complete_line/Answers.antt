-- `hex_chunks::held::complete_line` meets its contract.
use mathlib.Core.Path.{◌≡◌}
use borrow.Author.Rules.{rules}
use Rattle.std.specs.Prelude.{None, MatchOption, IsSomeAnd}
use Rattle.hex_reader.specs.Lines.{without_cr}
use Rattle.hex_chunks.proofs.held.Completing.{cut_short}
use Rattle.hex_chunks.proofs.held.complete_line.Goals as goal

pub returns-clause-by_index : goal.returns-clause-by_index
returns-clause-by_index c = λ line k.
    let e : MatchOption c.characters.result (c.map-line.result ≡ None) (λ x. IsSomeAnd c.map-line.result (λ y. y.now ≡ without_cr x.now)) = search rules in
    c.complete.ensures.by_index (without_cr line) (cut_short c.characters.result c.map-line.result line (c.characters.ensures line k) e)
