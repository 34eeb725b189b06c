-- Laws of a stack level: it holds nibbles, and what was stored in it is read back.
use Prim.Native.Nat.{ℕ, ◌+◌, ◌/◌, ◌%◌, ◌<◌, ◌≤◌}
use mathlib.Core.Path.{◌≡◌, ◌∙◌}
use mathlib.Core.List.{List}
use native.Mathlib.Omega.{arith}
use lib.ListN.{length, get_or, set, length-set}
use lib.Seq.{get_or-set_same, get_or-set_other}
use Rattle.bits.specs.Bits.{has_bit}
use Rattle.bits.proofs.Laws.{bit_of_lt, has_bit_is}
use Rattle.record.specs.Valid.{Nibbles}
use Rattle.record.specs.Stack.{level, stored, top_of, top_at, pc_at, kept_top}
use Rattle.record.specs.declared.Registers.{Registers}
use Rattle.record.proofs.Places.{set_nibble}

pub stored_nibbles : (ram : List ℕ) (n pc top : ℕ) → Nibbles ram → top < 16 → Nibbles (stored ram n pc top)
stored_nibbles ram n pc top h t =
    set_nibble _ _ top
    (set_nibble _ _ (pc / 256 % 16) (set_nibble _ _ (pc / 16 % 16) (set_nibble ram (level n) (pc % 16) h (omega arith)) (omega arith)) (omega arith))
    t

pub pc_at_lt : (ram : List ℕ) (n : ℕ) → Nibbles ram → n ≤ 12 → pc_at ram n < 8192
pc_at_lt ram n h l =
    let a = h.each (level n) (omega arith) in
    let b = h.each (level n + 1) (omega arith) in
    let c = h.each (level n + 2) (omega arith) in
    omega arith

pub top_lt : (pc : ℕ) (r : Registers) → pc < 8192 → top_of pc r < 16
top_lt pc r h = omega (arith, bit_of_lt r.cf, bit_of_lt r.zf, bit_of_lt r.sf)

pub kept_lt : (pc old : ℕ) → pc < 8192 → old < 16 → kept_top pc old < 16
kept_lt pc old h k = omega arith

-- the flags of the nibble that has PC12 and them
module _ (pc : ℕ) (r : Registers) (h : pc < 8192) where
  pub top-cf : has_bit (top_of pc r) 2 ≡ r.cf
  top-cf =
      has_bit_is (top_of pc r) 2 r.cf (omega (arith, bit_of_lt r.cf, bit_of_lt r.zf, bit_of_lt r.sf))

  pub top-zf : has_bit (top_of pc r) 4 ≡ r.zf
  top-zf =
      has_bit_is (top_of pc r) 4 r.zf (omega (arith, bit_of_lt r.cf, bit_of_lt r.zf, bit_of_lt r.sf))

  pub top-sf : has_bit (top_of pc r) 8 ≡ r.sf
  top-sf =
      has_bit_is (top_of pc r) 8 r.sf (omega (arith, bit_of_lt r.cf, bit_of_lt r.zf, bit_of_lt r.sf))

  pub top-pc : top_of pc r % 2 ≡ pc / 4096
  top-pc = omega (arith, bit_of_lt r.cf, bit_of_lt r.zf, bit_of_lt r.sf)

-- the four nibbles read back
module _ (ram : List ℕ) (n pc top : ℕ) (h : level n + 3 < length ram) where
  abbrev one : List ℕ
  one = set ram (level n) (pc % 16)

  abbrev two : List ℕ
  two = set one (level n + 1) (pc / 16 % 16)

  abbrev three : List ℕ
  three = set two (level n + 2) (pc / 256 % 16)

  first : get_or (stored ram n pc top) (level n) 0 ≡ pc % 16
  first =
      get_or-set_other three (level n + 3) (level n) top 0 (omega arith)
      ∙ get_or-set_other two (level n + 2) (level n) (pc / 256 % 16) 0 (omega arith)
      ∙ get_or-set_other one (level n + 1) (level n) (pc / 16 % 16) 0 (omega arith)
      ∙ get_or-set_same ram (level n) (pc % 16) 0 (omega arith)

  second : get_or (stored ram n pc top) (level n + 1) 0 ≡ pc / 16 % 16
  second =
      get_or-set_other three (level n + 3) (level n + 1) top 0 (omega arith)
      ∙ get_or-set_other two (level n + 2) (level n + 1) (pc / 256 % 16) 0 (omega arith)
      ∙ get_or-set_same one (level n + 1) (pc / 16 % 16) 0 (simp length-set (omega arith))

  third : get_or (stored ram n pc top) (level n + 2) 0 ≡ pc / 256 % 16
  third =
      get_or-set_other three (level n + 3) (level n + 2) top 0 (omega arith)
      ∙ get_or-set_same two (level n + 2) (pc / 256 % 16) 0 (simp length-set (omega arith))

  pub top_back : top_at (stored ram n pc top) n ≡ top
  top_back = get_or-set_same three (level n + 3) top 0 (simp length-set (omega arith))

  pub pc-back : pc < 8192 → top % 2 ≡ pc / 4096 → pc_at (stored ram n pc top) n ≡ pc
  pc-back l e = rw (first, second, third, top_back) (omega arith)
