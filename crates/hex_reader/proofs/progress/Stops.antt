-- A fault stops the reading, and no line changes that.
use mathlib.Core.Path.{◌≡◌, refl}
use mathlib.Core.Bool.{Bool, true, false}
use mathlib.Core.List.{List, [], ◌∷◌, ◌++◌}
use Prim.Native.Nat.{ℕ, suc, ◌+◌, ◌≤◌}
use native.Mathlib.Omega.{arith}
use lib.ListN.{length}
use Rattle.std.specs.Prelude.{Result, Ok, Err}
use Rattle.numbers.specs.Numbered.{refusal_number}
use Rattle.numbers.specs.declared.Refusal.{Refusal}
use Rattle.hex_reader.specs.Record.{faulty, line_of}
use Rattle.hex_reader.specs.Reads.{meaning_of, Long}
use Rattle.hex_reader.specs.declared.line.Line.{Line}
use Rattle.hex_reader.specs.declared.fault.HexFault.{HexFault}
use Rattle.hex_reader.specs.Progress.{Progress, going, ended, stopped, after_line, after_lines, at_end, read_lines}
use Rattle.hex_reader.specs.Reached.{Reached, is_stopped}
use Rattle.hex_reader.specs.declared.progress.Stage.{Stage}
use Rattle.hex_reader.specs.declared.progress.Stage.TheVariants.{Going, Ended}

-- lines after lines
pub lines_then : (image_size : ℕ) (p : Progress) (n : ℕ) (ls ms : List (List ℕ)) → after_lines image_size p n (ls ++ ms) ≡ after_lines image_size (after_lines image_size p n ls) (n + length ls) ms
lines_then image_size p n [] ms = let e : n + 0 ≡ n = omega arith in rw e
lines_then image_size p n (l ∷ ls) ms =
    let e : n + suc (length ls) ≡ suc n + length ls = omega arith in rw e (lines_then image_size (after_line image_size p n l) (suc n) ls ms)

pub stays : (image_size : ℕ) (number at n : ℕ) (ls : List (List ℕ)) → after_lines image_size (stopped number at) n ls ≡ stopped number at
stays image_size number at n [] = refl
stays image_size number at n (l ∷ ls) = stays image_size number at (suc n) ls

-- a fault is what the whole text comes to
pub stopped_reads : (image_size : ℕ) (s : Result Stage HexFault) (w : List ℕ) (p : Progress) → is_stopped s ≡ true → Reached image_size s w p → (n m : ℕ) (ls : List (List ℕ)) → read_lines image_size p n ls ≡ at_end p m
stopped_reads image_size (Ok stage) w p e r n m ls = cc
stopped_reads image_size (Err first) w p e r n m ls = rw (r, stays image_size (refusal_number first.refusal) first.line n ls)

-- after a faulty line there is no going on
abbrev goes_on : Progress → Bool
goes_on (going ds) = true
goes_on (ended ds) = true
goes_on (stopped number at) = false

fault_stops : (image_size : ℕ) (p : Progress) (n k : ℕ) (l : List ℕ) → faulty k ≡ line_of l → goes_on (after_line image_size p n l) ≡ false
fault_stops image_size (going ds) n k l e = rw (← e)
fault_stops image_size (ended ds) n k l e = refl
fault_stops image_size (stopped number at) n k l e = refl

reached_on : (image_size : ℕ) (s : Stage) (w : List ℕ) (p : Progress) → Reached image_size (Ok s) w p → goes_on p ≡ true
reached_on image_size Going w p r = rw r.is
reached_on image_size Ended w p r = rw r.is

-- so a line after which it goes on is not short
pub good_long : (image_size : ℕ) (line : Result Line Refusal) (s : Stage) (w : List ℕ) (p : Progress) (n size : ℕ) (l : List ℕ) → Reached image_size (Ok s) w (after_line image_size p n l) → meaning_of line ≡ line_of l → Long size line → 11 ≤ size
good_long image_size (Ok line) s w p n size l r m h = h
good_long image_size (Err refusal) s w p n size l r m h =
    let t = reached_on image_size s w (after_line image_size p n l) r in
    let f = fault_stops image_size p n (refusal_number refusal) l m in cc
