-- Document 01, "Worked values": those marked P, one list under one statement. Each line has the document's words, what the definitions give, and what the document says.
use Rattle.std.specs.Prelude.{ℕ, ◌+◌, Bool, true, false, List, [], ◌∷◌, ◌≡◌, eqb, get_or, set}
use Prim.Native.String.{String}
use Rattle.laws.specs.Choice.{pick}
use Rattle.bits.specs.Bits.{bit_of}
use Rattle.device.specs.declared.Device.TheVariants.{Em73862}
use Rattle.device.specs.declared.Options.{Options}
use Rattle.record.specs.Start.{fresh_machine}
use Rattle.record.specs.declared.Machine.{Machine}
use Rattle.row.specs.Places.{with_registers, with_pointers, with_ram}
use Rattle.row.specs.Rows.{Done}
use Rattle.step_act.specs.Act.{run_one}

pub record Claim : Type 0 where
  pub words : String
  pub given : ℕ
  pub said : ℕ

abbrev pub claim : String → ℕ → ℕ → Claim
claim words given said = record { words = words; given = given; said = said }

abbrev pub Hold : List Claim → Type 0
Hold [] = Unit
Hold (c ∷ cs) = (c.given ≡ c.said) × Hold cs

-- the EM73862 from its fresh record; no value depends on the wake pins or on SOUND
abbrev pub options : Options
options = record { device = Em73862; wake = 0xFF; sound = false }

abbrev pub fresh : Machine
fresh = fresh_machine Em73862

-- the fresh record with ACC and CF; with a nibble at RAM 000h, where HL points; with SP; with DP
abbrev pub with_acc : ℕ → Bool → Machine → Machine
with_acc acc cf m = with_registers m (record { acc = acc; hr = 0; lr = 0; cf = cf; zf = false; sf = true })

abbrev pub with_nibble : ℕ → Machine → Machine
with_nibble v m = with_ram m (set m.ram 0 v)

abbrev pub with_sp : ℕ → Machine → Machine
with_sp sp m = with_pointers m (record { sp = sp; dp = 0 })

abbrev pub with_dp : ℕ → Machine → Machine
with_dp dp m = with_pointers m (record { sp = 0; dp = dp })

-- a code at address 0, read and executed on a record whose PC is 0; the ROM has 56h at 1777h, and 0 elsewhere
abbrev pub rom_with : List ℕ → ℕ → ℕ → ℕ
rom_with code p3 at = pick (eqb at 0x1777) 0x56 (get_or code at 0)

abbrev pub run : List ℕ → Machine → Done
run code m = run_one (rom_with code) options m

abbrev pub acc : Done → ℕ
acc x = x.machine.core.regs.acc

abbrev pub cf : Done → ℕ
cf x = bit_of x.machine.core.regs.cf

abbrev pub zf : Done → ℕ
zf x = bit_of x.machine.core.regs.zf

abbrev pub sf : Done → ℕ
sf x = bit_of x.machine.core.regs.sf

abbrev pub sp : Done → ℕ
sp x = x.machine.core.ptrs.sp

abbrev pub pc : Done → ℕ
pc x = x.machine.core.pc

-- ADCAM, 70h, with CF 0: ACC plus the nibble at HL
abbrev pub sum : ℕ → ℕ → Done
sum a b = run (0x70 ∷ []) (with_acc a false (with_nibble b fresh))

-- SBCAM, 72h, with CF 1, which is no borrow: the nibble at HL less ACC
abbrev pub difference : ℕ → ℕ → Done
difference a b = run (0x72 ∷ []) (with_acc b true (with_nibble a fresh))

abbrev pub rlca : Done
rlca = run (0x50 ∷ []) (with_acc 8 false fresh)

abbrev pub sbcam : Done
sbcam = run (0x72 ∷ []) (with_acc 3 false (with_nibble 5 fresh))

-- SCALL n, E0h + n; LCALL 123h, 41h 23h; RET, 4Fh, each with SP
abbrev pub scall : ℕ → Done
scall n = run ((0xE0 + n) ∷ []) (with_sp 1 fresh)

abbrev pub lcall : ℕ → Done
lcall level = run (0x41 ∷ 0x23 ∷ []) (with_sp level fresh)

abbrev pub ret : ℕ → Done
ret level = run (0x4F ∷ []) (with_sp level fresh)

-- LDAX, 65h, and LDAXI, 67h
abbrev pub ldax : Done
ldax = run (0x65 ∷ []) (with_dp 0x777 fresh)

abbrev pub ldaxi : Done
ldaxi = run (0x67 ∷ []) (with_dp 0x777 fresh)

unfoldable pub worked_values : List Claim
worked_values =
    claim "adding 7 + F gives 6" (acc (sum 7 15)) 6 ∷
    claim "carry 1" (cf (sum 7 15)) 1 ∷
    claim "8 + 8 gives 0" (acc (sum 8 8)) 0 ∷
    claim "carry 1" (cf (sum 8 8)) 1 ∷
    claim "zero 1" (zf (sum 8 8)) 1 ∷
    claim "9 - 9 gives 0" (acc (difference 9 9)) 0 ∷
    claim "carry 1" (cf (difference 9 9)) 1 ∷
    claim "zero 1" (zf (difference 9 9)) 1 ∷
    claim "7 - F gives 8" (acc (difference 7 15)) 8 ∷
    claim "carry 0" (cf (difference 7 15)) 0 ∷
    claim "RLCA on 8 with CF 0: ACC 0" (acc rlca) 0 ∷
    claim "CF 1" (cf rlca) 1 ∷
    claim "ZF 1" (zf rlca) 1 ∷
    claim "SF 0" (sf rlca) 0 ∷
    claim "SBCAM, RAM 5, ACC 3, CF 0: ACC 1" (acc sbcam) 1 ∷
    claim "CF 1" (cf sbcam) 1 ∷
    claim "SF 1" (sf sbcam) 1 ∷
    claim "SCALL 0 goes to 0086h" (pc (scall 0)) 0x0086 ∷
    claim "1 to 000Eh" (pc (scall 1)) 0x000E ∷
    claim "15 to 007Eh" (pc (scall 15)) 0x007E ∷
    claim "SP 1 takes a call" (lcall 1).stop 0 ∷
    claim "and is lowered" (sp (lcall 1)) 0 ∷
    claim "SP 0 .. stop with 32" (lcall 0).stop 32 ∷
    claim "and 14" (lcall 14).stop 32 ∷
    claim "RET at 12 works" (ret 12).stop 0 ∷
    claim "and raises SP" (sp (ret 12)) 13 ∷
    claim "at 13 stops" (ret 13).stop 32 ∷
    claim "DP 777h reads ROM 1777h" (acc ldax) 6 ∷
    claim "DP 777h reads ROM 1777h" (acc ldaxi) 5 ∷
    []
