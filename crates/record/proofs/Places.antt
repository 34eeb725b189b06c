-- A nibble that is set leaves nibbles.
use Prim.Native.Nat.{ℕ, ◌<◌}
use mathlib.Core.Path.{◌≡◌, ◌∙◌}
use mathlib.Core.List.{List}
use native.Mathlib.Omega.{arith}
use native.Mathlib.Decide.{dec_lt, ℕ_discrete}
use lib.ListN.{length, get_or, set, length-set}
use lib.Seq.{get_or-set_same, get_or-set_other, set_out}
use Rattle.record.specs.Valid.{Nibbles}

at_place : (l : List ℕ) (i k v : ℕ) → Nibbles l → v < 16 → k < 372 → Dec (k ≡ i) → Dec (i < length l) → get_or (set l i v) k 0 < 16
at_place l i k v n h b (yes e) (yes g) = rw (e, get_or-set_same l i v 0 g) h
at_place l i k v n h b (yes e) (no g) = rw (set_out l i v (omega arith)) (n.each k b)
at_place l i k v n h b (no e) g = rw (get_or-set_other l i k v 0 e) (n.each k b)

pub set_nibble : (l : List ℕ) (i v : ℕ) → Nibbles l → v < 16 → Nibbles (set l i v)
set_nibble l i v n h =
    record {
      size = length-set l i v ∙ n.size;
      each = λ k b. at_place l i k v n h b (ℕ_discrete k i) (dec_lt i (length l));
    }
