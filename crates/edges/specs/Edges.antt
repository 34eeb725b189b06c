-- Document 01, "One step": "compare the frame with the last one". A pin is named by its port's digit and its weight there.
use Rattle.std.specs.Prelude.{ℕ, ◌/◌, ◌%◌, Bool, not, [], ◌∷◌}
use Rattle.std.specs.List.{list_any}
use Rattle.laws.specs.Choice.{pick, both, either}
use Rattle.bits.specs.Bits.{has_bit}
use Rattle.frame.specs.declared.Pins.{Pins}

-- "A falling edge on": the pin was 1 and is 0
abbrev pub fell : ℕ → ℕ → ℕ → Bool
fell old new w = both (has_bit old w) (not (has_bit new w))

-- "A rising edge on": it is 1 and was 0
abbrev pub rose : ℕ → ℕ → ℕ → Bool
rose old new w = both (has_bit new w) (not (has_bit old w))

-- "With bit 3 set, a step in sleep or hold wakes when an enabled wake pin reads 0 in the frame, edge or none" (Q-2); else "a falling edge on an enabled wake pin"
abbrev pub pin_wakes : Bool → ℕ → ℕ → ℕ → ℕ → Bool
pin_wakes byLevel enabled old new w = both (has_bit enabled w) (pick byLevel (not (has_bit new w)) (fell old new w))

-- of one port: enabled has the wake-enable bits of its four pins
abbrev pub port_wakes : Bool → ℕ → ℕ → ℕ → Bool
port_wakes byLevel enabled old new = list_any (pin_wakes byLevel enabled old new) (1 ∷ 2 ∷ 4 ∷ 8 ∷ [])

-- "eight wake-enable bits (P0.0 to P0.3, P8.0 to P8.3)", from bit 0 up
unfoldable pub wakes : Bool → ℕ → Pins → Pins → Bool
wakes byLevel enabled old new =
    either (port_wakes byLevel (enabled % 16) old.p0 new.p0) (port_wakes byLevel (enabled / 16) old.p8 new.p8)
