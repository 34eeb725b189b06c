-- `sound_generator::advance::advance` meets its contract.
use mathlib.Core.Path.{sym, ap, ◌∙◌}
use borrow.Author.Tests.{lt-ltb}
use Rattle.std.specs.Prelude.{Ok}
use Rattle.sound_generator.proofs.Ranges.{within}
use Rattle.sound_generator.proofs.advance.Advancing.{refuses-outside, refuses-over, refuses-zero, goes}
use Rattle.sound_generator.proofs.advance.advance.Goals as goal

pub returns-then-not-in_ranges : goal.returns-then-not-in_ranges
returns-then-not-in_ranges c = sym (refuses-outside _ _ (sym c.in_ranges.ensures ∙ c.if-not-in_ranges.true))

pub returns-then-n-gt-MOST_PULSES : goal.returns-then-n-gt-MOST_PULSES
returns-then-n-gt-MOST_PULSES c = sym (refuses-over _ _ (sym c.in_ranges.ensures ∙ c.if-not-in_ranges.false) (lt-ltb _ _ c.if-n-gt-MOST_PULSES.true))

pub returns-then-zero_while_on : goal.returns-then-zero_while_on
returns-then-zero_while_on c = sym (refuses-zero _ _ (sym c.in_ranges.ensures ∙ c.if-not-in_ranges.false) c.if-n-gt-MOST_PULSES.false (sym c.zero_while_on.ensures ∙ c.if-zero_while_on.true))

pub advanced-requires : goal.advanced-requires
advanced-requires c = (within (sym c.in_ranges.ensures ∙ c.if-not-in_ranges.false), c.if-n-gt-MOST_PULSES.false)

pub returns : goal.returns
returns c = ap Ok c.advanced.ensures ∙ sym (goes _ _ (sym c.in_ranges.ensures ∙ c.if-not-in_ranges.false) c.if-n-gt-MOST_PULSES.false (sym c.zero_while_on.ensures ∙ c.if-zero_while_on.false))
