-- `sound::run` meets its contract: what is written is shown before more is read.
use mathlib.Core.Path.{◌≡◌}
use mathlib.Core.List.{[]}
use Rattle.sound_text.specs.Entry.{Fits}
use Rattle.sound.proofs.run.Given as goal

abbrev pub invariant-loop : goal.invariant-loop
invariant-loop l = Fits l.entry × (l.out ≡ [])
