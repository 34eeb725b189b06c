-- Lists taken apart: a part of a list by its elements, and the scalars whose bytes those are.
use Prim.Native.Nat.{ℕ, zero, suc, ◌+◌, ◌-◌, ◌≤◌, ◌<◌}
use mathlib.Core.Path.{◌≡◌, refl, sym, ap, ◌∙◌}
use mathlib.Core.Bool.{Bool}
use mathlib.Core.List.{List, [], ◌∷◌, ◌++◌}
use native.Mathlib.Omega.{arith}
use lib.ListN.{length, get_or, take, drop, length-drop, take-append-drop}
use lib.Seq.{take_all, drop-cons, drop-drop}
use Rattle.laws.proofs.Computed.{listed}
use Rattle.bits.specs.Bits.{bit_of}
use Rattle.ports.specs.declared.Ports.{Ports}
use Rattle.ports.specs.declared.Mode.{Mode}
use Rattle.record.specs.declared.Registers.{Registers}
use Rattle.record.specs.declared.Interrupts.{Interrupts}
use Rattle.record.specs.declared.Timers.{Timers}
use Rattle.record_bytes.specs.Unpacked.{RegistersAt, InterruptsAt, TimersAt, PortsAt}
use Rattle.record_bytes.specs.Layout.{two, mode_number, nibbles_of, others_of, head_of}

-- n elements from i on
pub listed_part : (h : List ℕ) (i n : ℕ) → i + n ≤ length h → listed (λ k. get_or h k 0) i n ≡ take n (drop i h)
listed_part h i zero f = refl
listed_part h i (suc n) f =
    let l : i < length h = omega arith in
    rw (drop-cons h i 0 l, listed_part h (suc i) n (omega arith))

-- 44 bytes: five, the eleven latches, and 28
pub head_parts : (h : List ℕ) → length h ≡ 44 → h ≡ listed (λ k. get_or h k 0) 0 5 ++ (take 11 (drop 5 h) ++ listed (λ k. get_or h k 0) 16 28)
head_parts h l =
    let last : take 28 (drop 16 h) ≡ drop 16 h = take_all 28 (drop 16 h) (omega (arith, length-drop 16 h)) in
    let rest : drop 5 h ≡ take 11 (drop 5 h) ++ drop 16 h = sym (take-append-drop 11 (drop 5 h)) ∙ ap (λ (r : List ℕ). take 11 (drop 5 h) ++ r) (drop-drop 11 5 h) in
    sym (take-append-drop 5 h)
    ∙ (ap (λ (r : List ℕ). r ++ drop 5 h) (sym (listed_part h 0 5 (omega arith)))
    ∙ ap (λ (r : List ℕ). listed (λ k. get_or h k 0) 0 5 ++ r) (rest ∙ ap (λ (r : List ℕ). take 11 (drop 5 h) ++ r) (sym last ∙ sym (listed_part h 16 28 (omega arith)))))

-- the scalars whose bytes those are
pub head_laid : (h : List ℕ) (r : Registers) (i : Interrupts) (t : Timers) (p : Ports) (pc dp : ℕ) (mode : Mode) (mark : Bool) → length h ≡ 44 → RegistersAt h r → InterruptsAt h i → TimersAt h t → PortsAt h p → two pc ≡ get_or h 16 0 ∷ get_or h 17 0 ∷ [] → two dp ≡ get_or h 18 0 ∷ get_or h 19 0 ∷ [] → mode_number mode ≡ get_or h 36 0 → bit_of mark ≡ get_or h 37 0 → h ≡ head_of (record { regs = r; pc = pc; ptrs = record { sp = get_or h 3 0; dp = dp }; ints = i; timers = t; ports = p; pins = record { p0 = get_or h 33 0; p8 = get_or h 34 0; p4 = get_or h 35 0; speech = get_or h 43 0 }; mode = mode; mark = mark })
unfolding nibbles_of others_of
head_laid h r i t p pc dp mode mark l er ei et ep epc edp em ek =
    rw (er.acc, er.hr, er.lr, er.cf, er.zf, er.sf, ei.ei, ei.il, ei.mask, ei.due, et.ta, et.tb, et.base, ep.latches, ep.p3, ep.p5, ep.p6, ep.p17, epc, edp, em, ek) (head_parts h l)

pub ram_rest : (b : List ℕ) → length b ≡ 416 → take (length b - 44) (drop 44 b) ≡ drop 44 b
ram_rest b s = take_all (length b - 44) (drop 44 b) (omega (arith, length-drop 44 b))
