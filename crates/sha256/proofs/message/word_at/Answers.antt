-- `sha256::message::word_at` meets its contract.
use Rattle.std.proofs.Common.{arith}
use Rattle.sha256.proofs.Padding.{padded_length}
use Rattle.sha256.proofs.message.word_at.Goals as goal

pub overflow_add-at : goal.overflow_add-at
overflow_add-at c = omega (arith, padded_length c.args.message.now)

pub overflow_add-at-2 : goal.overflow_add-at-2
overflow_add-at-2 c = omega (arith, padded_length c.args.message.now)

pub overflow_add-at-3 : goal.overflow_add-at-3
overflow_add-at-3 c = omega (arith, padded_length c.args.message.now)
