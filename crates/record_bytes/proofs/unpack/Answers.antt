-- `record_bytes::unpack` meets its contract.
use Rattle.record_bytes.proofs.Unpacking.{wrong_flags, a_record}
use Rattle.record_bytes.proofs.unpack.Goals as goal

pub returns-in_err-core_of : goal.returns-in_err-core_of
returns-in_err-core_of c = rw c.from_residual.ensures (wrong_flags _ c.head_at.ensures c.in_err-core_of.ensures)

pub returns : goal.returns
returns c = a_record _ c.if-bytes-ne-RECORD_BYTES.false c.head_at.ensures c.ram_at.ensures c.in_ok-core_of.ensures
