-- `Joined::key` meets its contract.
use Rattle.std.proofs.Common.{sym, arith}
use Rattle.routines_numbered.specs.Packed.{name_in}
use Rattle.routines_joined.proofs.Keys.{key_entry, key_place}
use Rattle.routines_joined.proofs.joined.Joined.key.Goals as goal

pub returns-then-x-lt-ENTRIES : goal.returns-then-x-lt-ENTRIES
returns-then-x-lt-ENTRIES c = sym (key_entry _ _ c.if-x-lt-ENTRIES.true)

pub returns-else-x-lt-ENTRIES : goal.returns-else-x-lt-ENTRIES
unfolding name_in
returns-else-x-lt-ENTRIES c = rw (c.beside.ensures, c.place_of.ensures) (sym (key_place _ _ (omega (arith, c.if-x-lt-ENTRIES.false))))
