-- `compare_lines::verdict` meets its contract.
use mathlib.Core.Path.{◌≡◌}
use mathlib.Core.Path.{sym, ◌∙◌}
use mathlib.Core.List.{[]}
use Prim.Native.Nat.{◌+◌}
use native.Mathlib.Omega.{arith}
use Rattle.compare_lines.proofs.Ending.{done_at, short_at, extra}
use Rattle.compare_lines.proofs.verdict.Goals as goal

pub returns-then-more : goal.returns-then-more
returns-then-more c = λ line rest o e f g. rw (c.requires.2 c.if-more.true) (done_at c.args.n o c.args.size (sym e) [] rest ∙ extra (c.args.n + 1) rest (f c.if-more.true))

pub returns-in-Matching : goal.returns-in-Matching
returns-in-Matching c = λ line rest o e f g. rw (c.in-Matching.is, g c.if-more.false) (short_at c.args.n o c.in-Matching.at (omega (arith, c.if-at-size.true)) [])

pub returns-in-Matching-2 : goal.returns-in-Matching-2
returns-in-Matching-2 c =
    λ line rest o e f g.
    let h = rw c.in-Matching-2.is at c.requires.0 in
    let same : c.in-Matching.at ≡ c.in-Matching-2.at = cc in
    rw (c.in-Matching-2.is, g c.if-more.false) (done_at c.args.n o c.in-Matching-2.at (omega (arith, h, c.if-at-size.false)) [] [])
