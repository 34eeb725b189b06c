-- `routines_counted::pruned::pruned_word` meets its contract.
use native.Mathlib.Omega.{arith}
use Rattle.routines_counted.proofs.Linking.{place_here, kind_here}
use Rattle.routines_counted.proofs.Living.{pruned-fork, pruned-call, pruned-end}
use Rattle.routines_counted.proofs.pruned.pruned_word.Goals as goal

pub offset_bounds-words-v : goal.offset_bounds-words-v
offset_bounds-words-v c = omega (arith, (place_here c.requires.0).small)

pub bounds-words-v : goal.bounds-words-v
bounds-words-v c = omega (arith, (place_here c.requires.0).word)

pub returns-then-kind-eq1 : goal.returns-then-kind-eq1
returns-then-kind-eq1 c =
    let args = c.args in
    let kind = kind_here _ _ _ c.kind_of-kind.ensures in
    let fork = c.pruned_fork-links.ensures in
    pruned-fork args.words.now args.counts.now args.masks.now args.bases.now args.lives.now args.v args.d _ _ _ kind fork.1 c.with_links.ensures c.if-kind-eq1.true fork.0

pub returns-then-kind-eq3 : goal.returns-then-kind-eq3
returns-then-kind-eq3 c =
    let args = c.args in
    let kind = kind_here _ _ _ c.kind_of-kind.ensures in
    let call = c.pruned_call-links.ensures in
    pruned-call args.words.now args.counts.now args.masks.now args.bases.now args.lives.now args.v args.d _ _ _ kind call.3 c.with_links-then-kind-eq3.ensures c.if-kind-eq3.true call.0 call.1 call.2

pub returns : goal.returns
returns c =
    let args = c.args in
    let kind = kind_here _ _ _ c.kind_of-kind.ensures in
    pruned-end args.words.now args.counts.now args.masks.now args.bases.now args.lives.now args.v args.d _ _ _ kind (record { next = omega arith; other = omega arith; into = omega arith }) c.with_links-2.ensures c.if-kind-eq1.false c.if-kind-eq3.false
