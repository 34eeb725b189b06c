-- Sums that stop at a cap: a call adds the sums of its routine and of what comes after, so that exact ones would double with each level. "25 N over 65,535": a cap of 65,536 is enough.
use Rattle.std.specs.Prelude.{◌≡◌, Bool, ℕ, ◌+◌, max, min}
use Rattle.routines.specs.Calling.{Flow, Routine, end_of, after, In, Live}
use Rattle.routines.specs.Sums.{sum_in}

pub data CappedValue (f : Flow) (K : ℕ → Bool) (cycles : ℕ → ℕ) (cap : ℕ) (inn out : ℕ → ℕ) (r : Routine) (v : ℕ) : Type 0 where
  ends : f.kind v ≡ end_of r → sum_in inn out r v ≡ min cap (cycles v) → CappedValue f K cycles cap inn out r v
  forks : f.kind v ≡ 1 → sum_in inn out r v ≡ min cap (cycles v + max (sum_in inn out r (f.next v)) (sum_in inn out r (f.other v))) → CappedValue f K cycles cap inn out r v
  calls : f.kind v ≡ 3 → sum_in inn out r v ≡ min cap (cycles v + (inn (f.from (f.entry v)) + sum_in inn out r (after f K v))) → CappedValue f K cycles cap inn out r v

pub record Capped (f : Flow) (K : ℕ → Bool) (cycles : ℕ → ℕ) (cap : ℕ) (inn out : ℕ → ℕ) : Type 0 where
  pub value : (r : Routine) (v : ℕ) → Live f K r → In f K r v → CappedValue f K cycles cap inn out r v
