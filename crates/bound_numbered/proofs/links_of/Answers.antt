-- `bound_numbered::links_of` meets its contract.
use native.Mathlib.Omega.{arith}
use mathlib.Core.Path.{refl}
use Rattle.bound_numbered.specs.Found.{goes_next, goes_other, call_unknown, call_known, call_into, none, on, call}
use Rattle.bound_numbered.proofs.links_of.Goals as goal

pub number_of-requires : goal.number_of-requires
number_of-requires c =
    let pre-fact = c.requires in
    let if1-fact = c.if-x-eq3 in
    (omega (arith, pre-fact.0, pre-fact.1.next_lt), pre-fact.2 _ (call_unknown if1-fact.true refl))

pub number_of-requires-then-x-eq3 : goal.number_of-requires-then-x-eq3
number_of-requires-then-x-eq3 c =
    let pre-fact = c.requires in
    let if1-fact = c.if-x-eq3 in
    (omega (arith, pre-fact.0, pre-fact.1.other_lt), pre-fact.2 _ (call_known if1-fact.true refl))

pub number_of-requires-then-x-eq3-2 : goal.number_of-requires-then-x-eq3-2
number_of-requires-then-x-eq3-2 c =
    let pre-fact = c.requires in
    let if1-fact = c.if-x-eq3 in
    (omega (arith, pre-fact.0, pre-fact.1.entry_lt), pre-fact.2 _ (call_into if1-fact.true refl))

pub returns-then-x-eq3 : goal.returns-then-x-eq3
returns-then-x-eq3 c =
    let if1-fact = c.if-x-eq3 in
    let number-of-fact = c.number_of in
    let number-of2-fact = c.number_of-then-x-eq3 in
    let number-of3-fact = c.number_of-then-x-eq3-2 in
    call if1-fact.true number-of-fact.ensures number-of2-fact.ensures number-of3-fact.ensures

pub number_of-requires-then-x-eq1 : goal.number_of-requires-then-x-eq1
number_of-requires-then-x-eq1 c =
    let pre-fact = c.requires in
    let if2-fact = c.if-x-eq1 in
    (omega (arith, pre-fact.0, pre-fact.1.next_lt), pre-fact.2 _ (goes_next if2-fact.true refl))

pub number_of-requires-then-x-eq1-2 : goal.number_of-requires-then-x-eq1-2
number_of-requires-then-x-eq1-2 c =
    let pre-fact = c.requires in
    let if2-fact = c.if-x-eq1 in
    (omega (arith, pre-fact.0, pre-fact.1.other_lt), pre-fact.2 _ (goes_other if2-fact.true refl))

pub returns-then-x-eq1 : goal.returns-then-x-eq1
returns-then-x-eq1 c =
    let if2-fact = c.if-x-eq1 in
    let number-of4-fact = c.number_of-then-x-eq1 in
    let number-of5-fact = c.number_of-then-x-eq1-2 in
    on if2-fact.true number-of4-fact.ensures number-of5-fact.ensures refl

pub returns : goal.returns
returns c =
    let if1-fact = c.if-x-eq3 in
    let if2-fact = c.if-x-eq1 in
    none if1-fact.false if2-fact.false refl refl refl
