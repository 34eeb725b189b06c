-- `text_certificate::digest` meets its contract: from b-index on the bytes are left to be written.
use mathlib.Core.Path.{◌≡◌}
use mathlib.Core.List.{◌++◌}
use Prim.Native.Nat.{◌+◌, ◌*◌}
use lib.ListN.{length, drop}
use Rattle.text_certificate.specs.Certificate.{digest_text}
use Rattle.text_certificate.proofs.digest.Given as goal

abbrev pub invariant-loop-b : goal.invariant-loop-b
invariant-loop-b g l = record {
  text : l.out ++ digest_text (drop l.b-index l.bytes) ≡ l.initial.out ++ digest_text l.bytes;
  size : length l.out ≡ length l.initial.out + 2 * l.b-index;
}
