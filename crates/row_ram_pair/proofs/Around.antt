-- A row on the RAM that is lent, from its line: the two places, and what stands there.
use mathlib.Core.Path.{◌≡◌}
use mathlib.Core.Bool.{true}
use mathlib.Core.List.{List}
use Prim.Native.Nat.{ℕ}
use lib.Dec.{ltb}
use lib.ListN.{set}
use borrow.Author.Tests.{lt-ltb}
use Rattle.std.specs.Prelude.{Ok}
use Rattle.record.specs.Ram.{Placed, Peeked, at_x, beside_x}
use Rattle.record.specs.declared.Core.{Core}
use Rattle.row_ends.specs.declared.Act.{Act}
use Rattle.laws.specs.Among.{among}
use Rattle.laws.proofs.Among.{first}
use Rattle.row_ram.specs.Cells.{Does}
use Rattle.row_ram_pair.specs.Groups.{loads, exchanges}
use Rattle.row_ram_pair.specs.Ends.{hl_loaded}
use Rattle.row_ram_pair.proofs.Rows.{ldhl, exhl}

is_there : (at place : ℕ) → Placed (Ok at) place → ltb place 372 ≡ true
is_there at place h = rw (← h.0) (lt-ltb at 372 h.1)

module _ (m : Core) (row a b at beside lr hr : ℕ) (l : List ℕ) (x : Act) (h : Placed (Ok at) (at_x m a)) (k : Placed (Ok beside) (beside_x m a)) where
  pub loaded-there : among loads row ≡ true → Peeked l at lr → Peeked l beside hr → x ≡ hl_loaded m hr lr → Does m row a b l l (Ok x)
  loaded-there g p q d =
      rw (first loads row g tt, d, p.value, q.value, h.0, k.0) (ldhl m a b l (is_there _ _ h) (is_there _ _ k))

  -- n is RAM after the first nibble is stored, o after the second
  pub exchanged-there : (n o : List ℕ) → among exchanges row ≡ true → Peeked l at lr → n ≡ set l at m.regs.lr → Peeked n beside hr → o ≡ set n beside m.regs.hr → x ≡ hl_loaded m hr lr → Does m row a b l o (Ok x)
  exchanged-there n o g p s q t d =
      rw (first exchanges row g tt, d, p.value, q.value, t, s, h.0, k.0) (exhl m a b l (is_there _ _ h) (is_there _ _ k))
