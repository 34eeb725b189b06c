-- `Joined::lowest_repetition` meets its contract.
use Rattle.routines_joined.proofs.Refused.{ruled-all}
use Rattle.routines_joined.proofs.joined.Joined.lowest_repetition.Goals as goal

pub lowest_loop-requires : goal.lowest_loop-requires
lowest_loop-requires c =
    let pre = c.requires in
    (pre.0, pre.1, λ h. ruled-all _ _ c.args.self.now.laid pre.2.reached pre.2.listed (c.never_rises-steady.ensures h), pre.3, pre.4)
