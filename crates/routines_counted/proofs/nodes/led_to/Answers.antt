-- `routines_counted::nodes::led_to` meets its contract.
use native.Mathlib.Omega.{arith}
use Rattle.routines_counted.proofs.Leading.{led-itself, led-there}
use Rattle.routines_counted.proofs.nodes.led_to.Goals as goal

pub node_of-requires : goal.node_of-requires
node_of-requires c =
    let pre = c.requires in
    (pre.0.base, pre.0.small, omega (arith, pre.0.room, pre.2))

pub returns-then-r-ge-MOST_TURNS : goal.returns-then-r-ge-MOST_TURNS
returns-then-r-ge-MOST_TURNS c =
    let pre = c.requires in
    led-itself _ _ _ _ _ c.node_to-r.ensures _ c.node_of.ensures pre.0.room pre.2 c.if-r-ge-MOST_TURNS.true

pub returns : goal.returns
returns c = led-there _ _ _ _ _ c.node_to-r.ensures (omega (arith, c.if-r-ge-MOST_TURNS.false))
