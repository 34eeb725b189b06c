-- A call leaves no choice: its number, line and field are those of any other answer that keeps the promise.
use Prim.Native.Nat.{ℕ}
use mathlib.Core.Path.{◌≡◌, sym, ◌∙◌}
use mathlib.Core.List.{List}
use Rattle.device.specs.declared.Device.{Device}
use Rattle.record_calls.specs.Compare.{CompareCall}

pub compare_one : {d : Device} {image script listing : List ℕ} {n m l k f g : ℕ} → CompareCall d image script listing n l f → CompareCall d image script listing m k g → (n ≡ m) × (l ≡ k) × (f ≡ g)
compare_one a b = (a.number ∙ sym b.number, a.line ∙ sym b.line, a.field ∙ sym b.field)
