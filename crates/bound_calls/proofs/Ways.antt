-- The code's table of ways is the one that the sheet's columns make.
use mathlib.Core.Path.{◌≡◌, refl, ◌∙◌}
use mathlib.Core.Bool.{Bool, true, false}
use mathlib.Core.List.{List, [], ◌∷◌}
use Prim.Native.Nat.{ℕ, ◌+◌, ◌-◌, ◌<◌}
use native.Mathlib.Omega.{arith}
use lib.Dec.{T, eqb, eqb→eq, ltb, ltb→lt}
use lib.ListN.{get_or}
use borrow.Author.Tests.{eq-eqb, ne_eqb}
use Rattle.laws.specs.Among.{among}
use Rattle.laws.specs.Choice.{pick, both}
use Rattle.laws.proofs.Computed.{listed, listed_at, implies, at, NoKey, rest_at}
use Rattle.device.specs.Device.{guarded}
use Rattle.device.specs.declared.Device.{Device}
use Rattle.sheet.specs.Operation.{Target, Entry, Operation}
use Rattle.sheet.specs.Table.{Mark, lines, line_at}
use Rattle.sheet.specs.Fields.{InFields}
use Rattle.sheet.specs.declared.Insn.{Insn}
use Rattle.row.specs.Columns.{work_puts, sets_ei, writes_port}
use Rattle.bound_flow.specs.Flow.{is_one}
use Rattle.bound_flow.specs.Flow.Way.{nowhere, onward}
use Rattle.bound_calls.specs.CallFlow.{is_sp, CallWay, call_way_by, call_way_of}
use Rattle.bound_calls.specs.CallFlow.CallWay.{as_before}
use Rattle.bound_calls.specs.Ways.{numbered, IsWay}

-- the number of a row's way, 10 where the port that it writes decides
abbrev number_by : Mark → Operation → ℕ
number_by s (Operation.work to a) = pick (work_puts is_sp to a) 0 (pick (writes_port (Operation.work to a)) 10 (pick (is_one s) 2 3))
number_by s (Operation.branch Target.page) = 4
number_by s (Operation.branch Target.half) = 5
number_by s (Operation.branch Target.whole) = 6
number_by s (Operation.call Entry.long) = 7
number_by s (Operation.call Entry.short) = 8
number_by s Operation.return = 9
number_by s Operation.return_flag = 1
number_by s (Operation.IL⟵IL-and-r e) = pick (sets_ei (Operation.IL⟵IL-and-r e)) 0 (pick (is_one s) 2 3)
number_by s Operation.no_operation = pick (is_one s) 2 3

abbrev pub number_of : ℕ → ℕ
number_of row = number_by (line_at row).s (line_at row).operation

-- the code's table: `a` is way 0
unfoldable pub letters : List ℕ
letters = listed (λ row. 97 + number_of row) 0 108

pub letter_of : (row : ℕ) → row < 108 → get_or letters row 0 ≡ 97 + number_of row
unfolding letters
letter_of row h = listed_at (λ row. 97 + number_of row) 108 row h

-- each row that writes a port has S 1
port_sets : (row : ℕ) → row < 108 → T (implies (writes_port (line_at row).operation) (is_one (line_at row).s))
unfolding line_at lines
port_sets row h = at (λ row. implies (writes_port (line_at row).operation) (is_one (line_at row).s)) 108 tt row h

few_ways : (row : ℕ) → row < 108 → number_of row < 11
unfolding line_at lines
few_ways row h = ltb→lt (number_of row) 11 (at (λ row. ltb (number_of row) 11) 108 tt row h)

-- a way by its number and by whether the port is guarded
abbrev settled : ℕ → Bool → CallWay
settled n shut = pick (eqb n 10) (as_before (pick shut nowhere (onward true))) (numbered n)

work_way : (sp writes one shut : Bool) → T (implies writes one) → as_before (pick sp nowhere (pick (both writes shut) nowhere (onward one))) ≡ settled (pick sp 0 (pick writes 10 (pick one 2 3))) shut
work_way true writes one shut t = refl
work_way false true true true t = refl
work_way false true true false t = refl
work_way false true false shut t = absurd t
work_way false false true shut t = refl
work_way false false false shut t = refl

latch_way : (sets one shut : Bool) → as_before (pick sets nowhere (onward one)) ≡ settled (pick sets 0 (pick one 2 3)) shut
latch_way true one shut = refl
latch_way false true shut = refl
latch_way false false shut = refl

way_by_lem : (d : Device) (i : Insn) (s : Mark) (o : Operation) → T (implies (writes_port o) (is_one s)) → call_way_by d i s o ≡ settled (number_by s o) (among (guarded d) i.b)
way_by_lem d i s (Operation.work to a) t = work_way (work_puts is_sp to a) (writes_port (Operation.work to a)) (is_one s) (among (guarded d) i.b) t
way_by_lem d i s (Operation.branch Target.page) t = refl
way_by_lem d i s (Operation.branch Target.half) t = refl
way_by_lem d i s (Operation.branch Target.whole) t = refl
way_by_lem d i s (Operation.call Entry.long) t = refl
way_by_lem d i s (Operation.call Entry.short) t = refl
way_by_lem d i s Operation.return t = refl
way_by_lem d i s Operation.return_flag t = refl
way_by_lem d i s (Operation.IL⟵IL-and-r e) t = latch_way (sets_ei (Operation.IL⟵IL-and-r e)) (is_one s) (among (guarded d) i.b)
way_by_lem d i s Operation.no_operation t = latch_way false (is_one s) (among (guarded d) i.b)

module _ (d : Device) (i : Insn) (h : InFields i) (way : ℕ) (e : way ≡ get_or letters i.row 0 - 97) where
  way-number : way ≡ number_of i.row
  way-number = e ∙ rw (letter_of i.row h.row) (omega arith)

  settles : call_way_of d i (line_at i.row) ≡ settled way (among (guarded d) i.b)
  settles = way_by_lem d i (line_at i.row).s (line_at i.row).operation (port_sets i.row h.row) ∙ rw way-number

  pub plain-way : (way ≡ 10 → ⊥) → IsWay d i way
  plain-way ne = record { is = settles ∙ rw (ne_eqb way 10 ne); few = omega (arith, ne, way-number, few_ways i.row h.row) }

  pub to-guarded : way ≡ 10 → among (guarded d) i.b ≡ true → IsWay d i 0
  to-guarded s p = record { is = settles ∙ rw (eq-eqb way 10 s, p); few = omega arith }

  pub to-other-port : way ≡ 10 → among (guarded d) i.b ≡ false → IsWay d i 2
  to-other-port s p = record { is = settles ∙ rw (eq-eqb way 10 s, p); few = omega arith }

-- of the ten ways the last
pub last_way : (way : ℕ) → way < 10 → NoKey way (8 ∷ 7 ∷ 6 ∷ 5 ∷ 4 ∷ 3 ∷ 2 ∷ 1 ∷ 0 ∷ []) → way ≡ 9
last_way way l r = eqb→eq way 9 (rest_at (λ n. eqb n 9) (8 ∷ 7 ∷ 6 ∷ 5 ∷ 4 ∷ 3 ∷ 2 ∷ 1 ∷ 0 ∷ []) 10 tt way l r)
