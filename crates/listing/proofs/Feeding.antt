-- A part of the script told a line at a time: what is written and what is left make the listing, whatever the script goes on with.
use mathlib.Core.Path.{◌≡◌, refl, sym, ◌∙◌}
use mathlib.Core.Bool.{true, false}
use mathlib.Core.List.{List, [], ◌∷◌, ◌++◌, append_assoc, append-nil}
use Prim.Native.Nat.{ℕ, suc, ◌+◌, ◌-◌, ◌<◌, ◌≤◌}
use native.Mathlib.Omega.{arith}
use lib.ListN.{length, take, drop, length-drop}
use lib.Seq.{drop-drop}
use Rattle.laws.specs.Choice.{pick}
use Rattle.laws.proofs.Computed.{true→T}
use Rattle.device.specs.declared.Device.{Device}
use Rattle.record.specs.Valid.{Valid}
use Rattle.record.specs.declared.Core.{Core}
use Rattle.record.specs.declared.Machine.{Machine}
use Rattle.record.specs.With.{assembled}
use Rattle.text.specs.Script.{lines_of, up_to}
use Rattle.listing.specs.Listing.{answer_of, told_over}
use Rattle.listing.specs.Tells.{Tells, Feeds}
use Rattle.listing.specs.declared.Told.{Told}
use Rattle.text.proofs.script.Ends.{lines_first}

-- so many characters are used, and no line was the last
pub record Feeding (d : Device) (rom : ℕ → ℕ → ℕ) (m : Machine) (part before after : List ℕ) (now : Machine) (used : ℕ) : Type 0 where
  pub text : List ℕ
  pub wrote : after ≡ before ++ text
  pub told : (rest : List ℕ) → told_over d rom m (lines_of (part ++ rest)) ≡ text ++ told_over d rom now (lines_of (drop used part ++ rest))
  pub within : used ≤ length part
  pub valid : Valid d now

module _ {d : Device} {rom : ℕ → ℕ → ℕ} {m : Machine} {part before : List ℕ} where
  pub feeding-none : Valid d m → Feeding d rom m part before before m 0
  feeding-none v = record { text = []; wrote = sym (append-nil before); told = λ rest. refl; within = omega arith; valid = v }

  -- no line was the last
  pub feeding-pauses : {after ram : List ℕ} {room used : ℕ} {core : Core} → Feeding d rom m part before after (assembled core ram) used → (length after + 26 ≤ room → up_to (drop used part) ≡ length (drop used part)) → Feeds d rom m part before after room ram (record { core = core; ended = false; used = used })
  feeding-pauses f w =
      record { text = f.text; wrote = f.wrote; told = f.told; used = f.within; whole = λ e. w; valid = f.valid }

  module _ {mid after ram : List ℕ} {used end : ℕ} {now : Machine} {r : Told} (f : Feeding d rom m part before mid now used) (q : end ≡ used + up_to (drop used part)) (h : end < length part) (t : Tells d (answer_of d rom now (take (end - used) (drop used part))) mid after ram r) where
    size : end - used ≡ up_to (drop used part)
    size = omega arith

    left : drop (suc (end - used)) (drop used part) ≡ drop (end + 1) part
    left = let e : used + suc (end - used) ≡ end + 1 = omega arith in rw (drop-drop, e)

    lines : (rest : List ℕ) → lines_of (drop used part ++ rest) ≡ take (end - used) (drop used part) ∷ lines_of (drop (end + 1) part ++ rest)
    lines rest = lines_first (drop used part) rest (omega (arith, length-drop used part)) ∙ rw (← size, left)

    wrote_line : after ≡ before ++ (f.text ++ (answer_of d rom now (take (end - used) (drop used part))).text)
    wrote_line = t.wrote ∙ rw f.wrote (append_assoc before f.text (answer_of d rom now (take (end - used) (drop used part))).text)

    told_line : (rest : List ℕ) → told_over d rom m (lines_of (part ++ rest)) ≡ (f.text ++ (answer_of d rom now (take (end - used) (drop used part))).text) ++ pick r.ended [] (told_over d rom (assembled r.core ram) (lines_of (drop (end + 1) part ++ rest)))
    told_line rest = f.told rest ∙ rw (append_assoc, lines rest, t.ended, t.machine)

    pub feeding-next : r.ended ≡ false → Feeding d rom m part before after (assembled r.core ram) (end + 1)
    feeding-next z =
        record {
          text = f.text ++ (answer_of d rom now (take (end - used) (drop used part))).text;
          wrote = wrote_line;
          told = λ rest. rw z at (told_line rest);
          within = omega arith;
          valid = rw t.machine t.valid;
        }

    pub feeding-ends : {room : ℕ} → r.ended ≡ true → Feeds d rom m part before after room ram (record { core = r.core; ended = true; used = end + 1 })
    feeding-ends z =
        record {
          text = f.text ++ (answer_of d rom now (take (end - used) (drop used part))).text;
          wrote = wrote_line;
          told = λ rest. rw z at (told_line rest);
          used = omega arith;
          whole = λ y. absurd (true→T (sym y));
          valid = rw t.machine t.valid;
        }
