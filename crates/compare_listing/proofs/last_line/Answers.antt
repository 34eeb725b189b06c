-- `compare_listing::last_line` meets its contract.
use native.Mathlib.Omega.{arith}
use Rattle.std.proofs.lemmas.Grind.{common_steps}
use Rattle.compare_listing.proofs.Going.{last-ended, last_none, last_some}
use Rattle.compare_listing.proofs.last_line.Goals as goal
use Rattle.compare_listing.proofs.last_line.Goals.{then-p, else-p}

pub returns-then-is_empty : goal.returns-then-is_empty
returns-then-is_empty c =
    elim c.if-p.branch [
      | then-p w ↦ last-ended c.requires.0 c.args.text.now w.if-p.true
      | else-p w ↦ last_none c.requires.0 c.args.text.now (grind (arith, common_steps))
    ]

pub returns-else-is_empty : goal.returns-else-is_empty
returns-else-is_empty c =
    elim c.if-p.branch [
      | then-p w ↦ absurd (grind (arith, common_steps))
      | else-p w ↦ last_some c.requires.0 c.args.text.now (λ z. grind (arith, common_steps)) w.if-p.false c.next.ensures
    ]
