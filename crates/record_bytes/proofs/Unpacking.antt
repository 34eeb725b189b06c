-- What unpacking answers in each of its cases.
use Prim.Native.Nat.{ℕ}
use mathlib.Core.List.{List}
use mathlib.Core.Path.{◌≡◌, sym}
use lib.ListN.{length, take, drop, take-append-drop}
use Rattle.record.specs.declared.Core.{Core}
use Rattle.record_bytes.specs.Layout.{head_of, Holds, HoldsNone}
use Rattle.record_bytes.specs.Unpacked.{FlagsFit}
use Rattle.record_bytes.proofs.Tells.{flags_of}

pub wrong_flags : (bytes : List ℕ) {head : List ℕ} → head ≡ take 44 bytes → (FlagsFit head → ⊥) → HoldsNone bytes
wrong_flags bytes e n m h = n (rw (e, h.same) (flags_of m))

pub a_record : (bytes : List ℕ) {head ram : List ℕ} {core : Core} → length bytes ≡ 416 → head ≡ take 44 bytes → ram ≡ drop 44 bytes → head ≡ head_of core → Holds bytes (record { core = core; ram = ram })
a_record bytes s e r h = record { size = s; same = rw (← h, e, r) (sym (take-append-drop 44 bytes)) }
