-- `record_bytes::core_of` meets its contract.
use Rattle.record_bytes.proofs.Parts.{head_laid}
use Rattle.record_bytes.proofs.core_of.Goals as goal

pub returns : goal.returns
returns c = head_laid _ _ _ _ _ _ _ _ _ c.requires c.in_ok-registers_of.ensures c.in_ok-interrupts_at.ensures c.timers_of.ensures c.ports_of.ensures c.from_two.ensures c.from_two-2.ensures c.in_ok-mode_of.ensures c.in_ok-flag.ensures
