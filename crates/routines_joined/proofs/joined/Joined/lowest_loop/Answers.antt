-- `Joined::lowest_loop` meets its contract.
use Rattle.std.proofs.Common.{refl, ◌∙◌, arith}
use Rattle.routines_joined.proofs.Keys.{key_lt, key_once, loop-passed, on_lt, found_lt}
use Rattle.routines_joined.proofs.joined.Joined.lowest_loop.Goals as goal

pub key-key-requires : goal.key-key-requires
key-key-requires c = found_lt c.requires.1 c.requires.1.small (omega arith) c.in-Some.ensures refl

pub overflow_add-floor : goal.overflow_add-floor
overflow_add-floor c = omega (arith, c.key-key.ensures, key_lt c.args.self.now.words.now c.in-Some.x)

pub loop-x-smaller : goal.loop-x-smaller
loop-x-smaller c = omega (arith, c.key-key.ensures, key_lt c.args.self.now.words.now c.in-Some.x, (c.in-Some.ensures.found _ refl).1)

pub loop-x-preserved : goal.loop-x-preserved
loop-x-preserved c =
    let pre = c.requires in
    let on = (c.in-Some.ensures.found _ refl).0 in
    let laid = c.args.self.now.laid in (
      λ i h p. rw c.key-key.ensures (loop-passed c.loop-x.invariant.0 c.in-Some.ensures (c.comes_back.ensures.not_so c.if-comes_back.false)
          (λ j k e. key_once laid _ _ (omega (arith, pre.0, pre.1.below j k)) (omega (arith, pre.0, on_lt pre.1 on)) e) i h p),
      c.comes_back.auto.marks ∙ c.loop-x.invariant.1,
      c.comes_back.auto.queue ∙ c.loop-x.invariant.2,
    )
