-- The forty bytes as the code makes them: how many, and which stands where.
use Prim.Native.Nat.{ℕ, ◌<◌}
use mathlib.Core.Bool.{Bool}
use mathlib.Core.List.{List, map}
use mathlib.Core.Path.{◌≡◌}
use native.Mathlib.Omega.{arith}
use lib.ListN.{length, get_or}
use Rattle.std.specs.List.{range_with_len}
use Rattle.std.proofs.lemmas.List.FromFn.{length-map-range_with_len, get_or-map-range_with_len}
use Rattle.display.specs.Bytes.{byte_in}

abbrev pub bytes_in : Bool → List ℕ → List ℕ
bytes_in on ram = map (byte_in on ram) (range_with_len 0 40)

pub bytes_at_lem : (on : Bool) (ram : List ℕ) (j : ℕ) → j < 40 → get_or (bytes_in on ram) j 0 ≡ byte_in on ram j
bytes_at_lem on ram j h = get_or-map-range_with_len (byte_in on ram) 0 40 j j 0 h (omega arith)

pub bytes_length : (on : Bool) (ram : List ℕ) → length (bytes_in on ram) ≡ 40
bytes_length on ram = length-map-range_with_len (byte_in on ram) 0 40
