-- `record_calls::compare::compare_buffers` meets its contract.
use Prim.Native.Nat.{ℕ}
use mathlib.Core.List.{List}
use mathlib.Core.Path.{◌≡◌, sym, ap, ◌∙◌}
use Rattle.std.specs.Prelude.{Result, Ok}
use Rattle.numbers.specs.declared.Refusal.{Refusal}
use Rattle.device.specs.declared.Device.{Device}
use Rattle.compare_lines.specs.declared.Compared.{Compared}
use Rattle.compare_lines.specs.declared.Compared.TheVariants.{Same}
use Rattle.compare_listing.specs.Compared.{compared_of, number_of}
use Rattle.record_calls.specs.Compare.{line_of, field_in, CompareCall}
use Rattle.record_calls.proofs.compare.compare_buffers.Goals as goal

answered : {d : Device} {image script listing : List ℕ} (a : Result Compared Refusal) → compared_of d image script listing ≡ a → CompareCall d image script listing (number_of a) (line_of a) (field_in a)
answered a e = record { number = ap number_of (sym e); line = ap line_of (sym e); field = ap field_in (sym e) }

pub returns-in-Ok-Same : goal.returns-in-Ok-Same
returns-in-Ok-Same c = answered (Ok Same) (c.compare.ensures ∙ (c.in-Ok-Same.is ∙ ap Ok c.in-Ok-Same.field-0-is))
