-- `text_certificate::digest` meets its contract.
use mathlib.Core.List.{append_assoc, append-nil}
use native.Mathlib.Omega.{arith}
use lib.ListN.{drop_of_length-le}
use Rattle.text_certificate.specs.Certificate.{digest_text}
use Rattle.text_certificate.proofs.Digits.{digest_next}
use Rattle.text_certificate.proofs.digest.Goals as goal

pub loop-b-preserved : goal.loop-b-preserved
loop-b-preserved g c =
    let more = rw (digest_next c.args.bytes.now c.loop-b.b-index c.loop-b-test.true) at c.loop-b.invariant.text in
    record { text = rw (c.put-in-loop-b.ensures.text, c.lower_digit-in-loop-b.ensures, c.put.ensures.text, c.lower_digit.ensures, append_assoc, append_assoc) more; size = omega arith }

pub returns-clause-text : goal.returns-clause-text
unfolding digest_text
returns-clause-text g c = rw (drop_of_length-le c.args.bytes.now {i = c.loop-b.b-index} c.loop-b-test.false, append-nil) at c.loop-b.invariant.text
