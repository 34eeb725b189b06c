-- `frame::again` meets its contract.
use Rattle.std.proofs.Common.{◌≡◌, ◌+◌, ◌-◌, arith}
use lib.ListN.{take, drop}
use Rattle.std.proofs.lemmas.Bool.Decides.{Decides-eqb}
use Rattle.std.proofs.lemmas.Slice.Eq.{slice_eq-Decides}
use Rattle.frame.proofs.Alike.{same_parts}
use Rattle.frame.proofs.again.Goals as goal

pub returns : goal.returns
returns c =
    let s = c.args.s.now in
    let n = c.args.n in
    let at = c.args.at in
    let later : at + n + 24 - (at + n) ≡ 24 = omega arith in
    let first : at + 24 - at ≡ 24 = omega arith in
    record {
      same = λ e.
          let parts : take (at + n + 24 - (at + n)) (drop (at + n) s) ≡ take (at + 24 - at) (drop at s) = (slice_eq-Decides Decides-eqb (take (at + n + 24 - (at + n)) (drop (at + n) s)) (take (at + 24 - at) (drop at s)) _ c.eq.ensures).0 e in
          same_parts s n at 24 (rw (later, first) at parts);
    }
