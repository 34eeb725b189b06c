-- `sha256::em73862_sha256` meets its contract.
use Rattle.std.proofs.Common.{refl, le-ltb, lt-ltb, eq-eqb, ne_eqb}
use Rattle.sha256.proofs.em73862_sha256.Goals as goal

pub returns-then-message-ge-MESSAGE_BYTES : goal.returns-then-message-ge-MESSAGE_BYTES
returns-then-message-ge-MESSAGE_BYTES c = record { answer = rw (le-ltb _ _ c.if-message-ge-MESSAGE_BYTES.true); digest = refl }

pub returns-then-digest-ne-DIGEST_BYTES : goal.returns-then-digest-ne-DIGEST_BYTES
returns-then-digest-ne-DIGEST_BYTES c = record { answer = rw (lt-ltb _ _ c.if-message-ge-MESSAGE_BYTES.false, ne_eqb _ _ c.if-digest-ne-DIGEST_BYTES.true); digest = refl }

pub returns : goal.returns
returns c = record { answer = rw (lt-ltb _ _ c.if-message-ge-MESSAGE_BYTES.false, eq-eqb _ _ c.if-digest-ne-DIGEST_BYTES.false); digest = c.digest_of.ensures }
