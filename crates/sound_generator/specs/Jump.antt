-- What the code makes of many pulses at once: the tone after so many toggles.
use Rattle.std.specs.Prelude.{ℕ, zero, suc, Bool, not}

unfoldable pub flipped : ℕ → Bool → Bool
flipped zero tone = tone
flipped (suc n) tone = flipped n (not tone)
