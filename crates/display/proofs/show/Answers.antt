-- `display::show` meets its contract.
use Rattle.std.proofs.Common.{arith, ap, ◌++◌, ◌≡◌, length, drop, List, ℕ, ◌<◌, ◌≢◌, below_more, get_or-set_other, get_or-set_same}
use Rattle.std.proofs.lemmas.List.{length-take-le}
use Rattle.std.proofs.lemmas.List.FromFn.{fill_by_all}
use Rattle.display.specs.Bytes.{byte_in}
use Rattle.display.specs.Display.{is_on}
use Rattle.display.proofs.Shows.{shows}
use Rattle.display.proofs.show.Goals as goal

pub byte-requires : goal.byte-requires
byte-requires c = (c.requires.0, omega (arith, length-take-le 40 c.args.out.now c.requires.1))

pub loop-j-preserved : goal.loop-j-preserved
loop-j-preserved c =
    below_more _ _
    (λ k h. let ne : k ≢ c.loop-j.j = omega arith in rw get_or-set_other (c.loop-j.invariant k h))
    (let lt : c.loop-j.j < length c.loop-j.dots = omega arith in rw get_or-set_same c.byte.ensures)

pub returns : goal.returns
returns c =
    let n : length c.loop-j.dots ≡ 40 = omega (arith, length-take-le 40 c.args.out.now c.requires.1) in
    shows _ _ _ c.requires.0 c.requires.1
    (ap (λ (dots : List ℕ). dots ++ drop 40 c.args.out.now)
    (fill_by_all (byte_in (is_on c.args.m) c.args.m.ram) c.loop-j.dots 40 0 n (λ k h. c.loop-j.invariant k (omega arith))))
