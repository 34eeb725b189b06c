-- The arrays keep their lengths, and the walk a top that fits.
use Rattle.std.proofs.Common.{◌≡◌, ◌+◌, ◌*◌, ◌<◌, length}
use Rattle.routines_joined.proofs.joined.Joined.rank_nodes.Given as goal

abbrev pub invariant-loop : goal.invariant-loop
invariant-loop l = (length l.rank ≡ 2048 + 2 * l.self.numbers) × (l.n ≡ length l.rank) × (length l.number ≡ length l.rank) × (length l.below ≡ length l.rank) × (length l.back ≡ length l.rank) × (length l.stage ≡ length l.rank) × (l.spot.top < 65536)
