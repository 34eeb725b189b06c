-- Document 01, "One step": which interrupt is due, of the latches IL5 to IL0 and the mask. A source is named by its latch's number.
use Rattle.std.specs.Prelude.{ℕ, Bool, [], ◌∷◌, get_or}
use Rattle.laws.specs.Choice.{pick, both}
use Rattle.bits.specs.Bits.{has_bit}

-- "Mask bits: interrupt table of 000; INT0 needs EI only." TRGA needs MASK2, TRGB MASK1, INT1 MASK0; TBI's cell is blank in both sheets and is read as MASK1 (docs/DECISIONS.md)
abbrev pub int0_due : ℕ → Bool
int0_due il = has_bit il 32

abbrev pub trga_due : ℕ → ℕ → Bool
trga_due il mask = both (has_bit il 8) (has_bit mask 4)

abbrev pub trgb_due : ℕ → ℕ → Bool
trgb_due il mask = both (has_bit il 4) (has_bit mask 2)

abbrev pub tbi_due : ℕ → ℕ → Bool
tbi_due il mask = both (has_bit il 2) (has_bit mask 2)

abbrev pub int1_due : ℕ → ℕ → Bool
int1_due il mask = both (has_bit il 1) (has_bit mask 1)

-- "accept the first of INT0, TRGA, TRGB, TBI, INT1 (IL5, IL3, IL2, IL1, IL0; ..)": 6 where none is due
unfoldable pub due_source : ℕ → ℕ → ℕ
due_source il mask =
    pick (int0_due il) 5
    (pick (trga_due il mask) 3 (pick (trgb_due il mask) 2 (pick (tbi_due il mask) 1 (pick (int1_due il mask) 0 6))))

-- 0 none, 1 to 5 INT0, TRGA, TRGB, TBI, INT1: by the latch, and the latch by it
abbrev pub number_of : ℕ → ℕ
number_of latch = get_or (5 ∷ 4 ∷ 3 ∷ 2 ∷ 0 ∷ 1 ∷ 0 ∷ []) latch 0

abbrev pub latch_of_source : ℕ → ℕ
latch_of_source due = get_or (6 ∷ 5 ∷ 3 ∷ 2 ∷ 1 ∷ 0 ∷ []) due 0

-- "the source that would be accepted were EI set, or none" (Q-11)
unfoldable pub due_number : ℕ → ℕ → ℕ
due_number il mask = number_of (due_source il mask)
