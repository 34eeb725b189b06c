-- `sha256::hash` meets its contract.
use Rattle.std.proofs.Common.{◌≡◌, ◌/◌, length, sym, ◌∙◌, arith}
use Rattle.sha256.specs.Sha256.{padded, hash_of}
use Rattle.sha256.proofs.Padding.{padded_length}
use Rattle.sha256.proofs.Steps.{one_block, no_block}
use Rattle.sha256.proofs.hash.Goals as goal

pub loop-i-init : goal.loop-i-init
loop-i-init c = c.start-s.ensures ∙ sym (no_block _)

pub take_block-s-requires : goal.take_block-s-requires
take_block-s-requires c = (c.requires, omega (arith, c.blocks-i-end.ensures, padded_length c.args.message.now))

pub loop-i-preserved : goal.loop-i-preserved
loop-i-preserved c = cc (one_block (padded c.args.message.now) c.loop-i.i)

pub returns : goal.returns
unfolding hash_of
returns c = let e : c.loop-i.i ≡ length (padded c.args.message.now) / 64 = omega (arith, c.blocks-i-end.ensures, padded_length c.args.message.now) in rw e at c.loop-i.invariant
