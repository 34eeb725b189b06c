-- Document 01, "The handler bound": what it is that N bounds the handler at an address.
use Rattle.std.specs.Prelude.{◌≡◌, List, ℕ}
use Rattle.device.specs.declared.Device.{Device}
use Rattle.graph.specs.Graph.{Path, AtMost, Longest, sum, Sound}
use Rattle.bound_flow.specs.Flow.{flow_graph, flow_cost, start_of}

-- no excluded place and no repetition is reachable
pub record HasBound (d : Device) (rom : ℕ → ℕ) (start N : ℕ) (path : List ℕ) : Type 0 where
  pub sound : Sound (flow_graph d rom) (start_of start)
  -- "N is the largest sum of cycles to an RTI, RTI included": the path has it, and none has more
  pub is_path : Path (flow_graph d rom) (start_of start) path
  pub sum : N ≡ sum (flow_cost d rom) path
  pub largest : AtMost (flow_graph d rom) (flow_cost d rom) (start_of start) N
  -- "among equal sums take the next instruction before the target"
  pub longest : Longest (flow_graph d rom) (flow_cost d rom) (start_of start) path
