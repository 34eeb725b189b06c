-- `bound_numbered::number_after` meets its contract.
use native.Mathlib.Omega.{arith}
use Rattle.bound_numbered.proofs.Reading.{after_none, after_both, after_call}
use Rattle.bound_numbered.proofs.number_after.Goals as goal

pub number-requires : goal.number-requires
number-requires c =
    let number2-fact = c.number-known in
    let number-fact = c.number-unknown in
    let pre-fact = c.requires in
    (number2-fact.ensures.0.told, omega (arith, number-fact.auto.map, number2-fact.auto.map, pre-fact.1), omega (arith, number-fact.auto.words, number2-fact.auto.words, pre-fact.2), omega (arith, pre-fact.3.entry_lt))

pub returns-then-x-eq3 : goal.returns-then-x-eq3
returns-then-x-eq3 c =
    let if1-fact = c.if-x-eq3 in
    let number-fact = c.number-unknown in
    let number2-fact = c.number-known in
    let number3-fact = c.number in
    after_call _ if1-fact.true number-fact.ensures.0 number2-fact.ensures.0 number3-fact.ensures.0

pub returns-then-x-ne1 : goal.returns-then-x-ne1
returns-then-x-ne1 c =
    let if1-fact = c.if-x-eq3 in
    let if2-fact = c.if-x-ne1 in
    let pre-fact = c.requires in
    after_none _ if1-fact.false if2-fact.true pre-fact.0

pub number-requires-2 : goal.number-requires-2
number-requires-2 c =
    let number4-fact = c.number-next_count in
    let pre-fact = c.requires in
    (number4-fact.ensures.0.told, omega (arith, number4-fact.auto.map, pre-fact.1), omega (arith, number4-fact.auto.words, pre-fact.2), pre-fact.3.other_lt)

pub returns : goal.returns
returns c =
    let if2-fact = c.if-x-ne1 in
    let number4-fact = c.number-next_count in
    let number5-fact = c.number-2 in
    after_both _ if2-fact.false number4-fact.ensures.0 number5-fact.ensures.0
