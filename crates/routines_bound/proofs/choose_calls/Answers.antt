-- `routines_bound::choose_calls` meets its contract.
use mathlib.Core.Path.{refl, sym}
use lib.ListN.{replicate}
use Rattle.graph_search.proofs.Zeros.{blank_zeros}
use Rattle.routines_known.proofs.Settling.{sized_at}
use Rattle.routines_bound.proofs.Parts.{part_length, part_blank}
use Rattle.routines_bound.proofs.choose_calls.Goals as goal

pub mark_losing-requires : goal.mark_losing-requires
mark_losing-requires c =
    (sized_at (sym (part_length c.args.n (replicate 16384 0) refl c.requires.few)) c.requires, part_blank c.args.n (replicate 16384 0) c.requires.few (blank_zeros 16384))
