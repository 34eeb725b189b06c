-- Request Q-7, "Why was it not taken?": "the tool says which holds for that step, the first of: sleeping or holding; EI clear; nothing latched; latched but all masked, with the sources; due but the stack level refuses it; accepted, with the source and the due ones that must wait."
-- A source is named by its latch's number, and a set of sources has bit n where the source of ILn is in it.
use Rattle.std.specs.Prelude.{ℕ, ◌+◌, ◌*◌, ◌^◌, not, eqb}
use Rattle.laws.specs.Choice.{pick}
use Rattle.bits.specs.Bits.{without_bit, bit_of}
use Rattle.device.specs.declared.Options.{Options}
use Rattle.frame.specs.declared.Pins.{Pins}
use Rattle.due.specs.Due.{int0_due, trga_due, trgb_due, tbi_due, int1_due, due_source}
use Rattle.record.specs.Stack.{can_push}
use Rattle.record.specs.declared.Core.{Core}
use Rattle.step_look.specs.Look.{is_running, seen}
use Rattle.step_why.specs.declared.Reason.{Reason}

-- the due ones, each latched and allowed by its mask: IL5, IL3, IL2, IL1, IL0
unfoldable pub due_set : ℕ → ℕ → ℕ
due_set il mask =
    32 * bit_of (int0_due il) + 8 * bit_of (trga_due il mask) + 4 * bit_of (trgb_due il mask) + 2 * bit_of (tbi_due il mask) + bit_of (int1_due il mask)

-- "accepted, with the source and the due ones that must wait": the first of the due ones, and the others
abbrev pub taken_of : ℕ → ℕ → Reason
taken_of il mask = Reason.Accepted (record { source = due_source il mask; waiting = without_bit (due_set il mask) (2 ^ due_source il mask) })

-- "EI clear; nothing latched; latched but all masked, with the sources; due but the stack level refuses it; accepted": of a running record that has seen the frame
unfoldable pub why_seen : Core → Reason
why_seen m =
    let il = m.ints.il in
    let mask = m.ints.mask in
    pick (not m.ints.ei) Reason.Disabled
    (pick (eqb il 0) Reason.Nothing
    (pick (eqb (due_set il mask) 0) (Reason.Masked il)
    (pick (not (can_push m)) (Reason.Level (due_set il mask))
    (taken_of il mask))))

-- "sleeping or holding", also where the frame wakes. "It speaks of latches after the frame's edges", and of those that event counts set
unfoldable pub why_of : Options → Core → Pins → Reason
why_of o m new = pick (not (is_running m.mode)) Reason.Waiting (why_seen (seen o.device m new))
