-- Demand 3: "every emulated run from there .. reaches the return or a named stop having spent at most N".
use mathlib.Core.Path.{sym, ◌∙◌}
use mathlib.Core.Bool.{true}
use Prim.Native.Nat.{ℕ}
use native.Mathlib.Omega.{arith}
use Rattle.device.specs.declared.Device.{Device}
use Rattle.record.specs.declared.Machine.{Machine}
use Rattle.graph.specs.Graph.{here}
use Rattle.bound_flow.specs.Flow.{start_of}
use Rattle.bound_runs.specs.Handler.{Enters, Demand3}
use Rattle.bound_runs.proofs.Standing.{Standing, address_place}
use Rattle.bound_runs.proofs.Runs.{run-from}

-- "the start is known"
enters_standing : {d : Device} {m : Machine} {p3 start : ℕ} → Enters d m p3 start → Standing m.core p3 (start_of start)
enters_standing {start = start} e = record { at = e.at ∙ sym (address_place start true); running = e.running; ei = e.ei; bank = e.bank; sf = λ k. e.sf }

pub demand_3 : Demand3
demand_3 rom bytes o p3 start N start-lt path bound m enters frames shown enough =
    run-from rom o p3 bytes (start_of start) (omega arith) bound.sound frames m (start_of start) N enters.valid (enters_standing enters) here bound.largest shown enough
