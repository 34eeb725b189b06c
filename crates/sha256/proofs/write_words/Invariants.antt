-- `sha256::write_words` meets its contract.
use Rattle.std.proofs.Common.{◌≡◌, ◌*◌, take}
use Rattle.sha256.specs.Sha256.{joined}
use Rattle.sha256.proofs.write_words.Given as goal

abbrev pub invariant-loop-i : goal.invariant-loop-i
invariant-loop-i l = take (4 * l.i) l.digest ≡ joined (take l.i l.word-items)
