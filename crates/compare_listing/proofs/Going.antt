-- Script and listing in parts: each law is a way on or an end of the loop over the lines.
use mathlib.Core.Path.{◌≡◌, refl, ◌∙◌}
use mathlib.Core.Bool.{Bool, true, false}
use mathlib.Core.List.{List, [], ◌∷◌, ◌++◌}
use Prim.Native.Nat.{ℕ, suc, ◌+◌, ◌-◌, ◌<◌, ◌≤◌}
use native.Mathlib.Omega.{arith}
use lib.ListN.{length, take, drop, length-drop}
use lib.Seq.{drop-drop, length-take-le}
use Rattle.laws.specs.Choice.{pick}
use Rattle.device.specs.declared.Device.{Device}
use Rattle.record.specs.With.{assembled}
use Rattle.text.specs.Script.{lines_of, up_to}
use Rattle.text.proofs.script.Ends.{lines_first, lines_last}
use Rattle.listing.specs.Listing.{told_over}
use Rattle.compare_lines.specs.Left.{settled, Heeds}
use Rattle.compare_lines.specs.declared.Heard.{Heard}
use Rattle.compare_lines.proofs.Hearing.{rest_of}
use Rattle.compare_listing.specs.Progress.{answer_from, with_phase, Sound, Nexts, Lasts, Goes}
use Rattle.compare_listing.specs.declared.Progress.{Progress}

-- so many characters of both are used
pub record Going (d : Device) (rom : ℕ → ℕ → ℕ) (p : Progress) (ram ours script listing : List ℕ) (last : Bool) (now : Progress) (ram' ours' : List ℕ) (read heard : ℕ) : Type 0 where
  pub same : (more theirs : List ℕ) → (last ≡ true → theirs ≡ []) → answer_from d rom p ram ours (lines_of (script ++ more)) (listing ++ theirs) ≡ answer_from d rom now ram' ours' (lines_of (drop read script ++ more)) (drop heard listing ++ theirs)
  pub sound : Sound d now ram' ours'
  pub within : read ≤ length script
  pub hears : heard ≤ length listing
  pub count : now.line + now.line + (length script - read) ≤ p.line + p.line + length script

-- the answer depends on the phase as what is left does
heeded : (d : Device) (rom : ℕ → ℕ → ℕ) (p : Progress) (ram ours : List ℕ) (script : List (List ℕ)) (part theirs : List ℕ) (last : Bool) (r : Heard) → Heeds p.phase p.line ours part last r → (last ≡ true → theirs ≡ []) → answer_from d rom p ram ours script (part ++ theirs) ≡ answer_from d rom (with_phase p r.phase) ram ours script (drop r.used part ++ theirs)
unfolding answer_from
heeded d rom p ram ours script part theirs last r h z =
    rw (h.same (pick p.ended [] (told_over d rom (assembled p.core ram) script)) theirs z)

module _ {d : Device} {rom : ℕ → ℕ → ℕ} {p : Progress} {ram ours script listing : List ℕ} {last : Bool} where
  pub going_start : Sound d p ram ours → Going d rom p ram ours script listing last p ram ours 0 0
  going_start s =
      record {
        same = λ more theirs z. refl;
        sound = s;
        within = omega arith;
        hears = omega arith;
        count = omega arith;
      }

  module _ {now : Progress} {ram' ours' : List ℕ} {read heard : ℕ} (g : Going d rom p ram ours script listing last now ram' ours' read heard) where
    module _ {r : Heard} (h : Heeds now.phase now.line ours' (take (length listing - heard) (drop heard listing)) last r) where
      left-length : length (take (length listing - heard) (drop heard listing)) ≡ length listing - heard
      left-length = rw (rest_of heard listing) (length-drop heard listing)

      pub going-used : heard + r.used ≤ length listing
      going-used = omega (arith, h.used, left-length, g.hears)

      pub going-heeds : Going d rom p ram ours script listing last (with_phase now r.phase) ram' ours' read (heard + r.used)
      going-heeds =
          record {
            same = λ more theirs z. g.same more theirs z ∙ (rw (rest_of heard listing, drop-drop r.used heard listing) at (heeded d rom now ram' ours' (lines_of (drop read script ++ more)) (take (length listing - heard) (drop heard listing)) theirs last r h z));
            sound = record { valid = g.sound.valid; line = g.sound.line; placed = h.placed; fair = g.sound.fair };
            within = g.within;
            hears = going-used;
            count = g.count;
          }

      waiting : settled r.phase (length ours') ≡ false → (last ≡ false) × (heard + r.used ≡ length listing)
      waiting z =
          let w = h.waits z in (w.0, omega (arith, w.1, left-length, g.hears))

      pub goes : (settled r.phase (length ours') ≡ true → now.ended ≡ false → up_to (drop read script) ≡ length (drop read script)) → Goes d rom p ram ours script listing last (record { progress = with_phase now r.phase; script = read; listing = heard + r.used }) ram' ours'
      goes e =
          record {
            same = going-heeds.same;
            sound = going-heeds.sound;
            read = g.within;
            heard = going-used;
            count = g.count;
            ends = e;
            waits = waiting;
          }

    -- a whole line of the script
    module _ {q : Progress} {ram'' ours'' : List ℕ} {end : ℕ} (e : end ≡ read + up_to (drop read script)) (h : end < length script) (n : Nexts d rom now ram' ours' (take (end - read) (drop read script)) q ram'' ours'') where
      size_is : end - read ≡ up_to (drop read script)
      size_is = omega arith

      after : drop (suc (end - read)) (drop read script) ≡ drop (end + 1) script
      after = let f : read + suc (end - read) ≡ end + 1 = omega arith in rw (drop-drop, f)

      lines : (more : List ℕ) → lines_of (drop read script ++ more) ≡ take (end - read) (drop read script) ∷ lines_of (drop (end + 1) script ++ more)
      lines more = lines_first (drop read script) more (omega (arith, length-drop read script)) ∙ rw (← size_is, after)

      taken : length (take (end - read) (drop read script)) ≡ end - read
      taken = length-take-le (end - read) (drop read script) (omega (arith, length-drop read script))

      pub going_next : Going d rom p ram ours script listing last q ram'' ours'' (end + 1) heard
      going_next =
          record {
            same = λ more theirs z. g.same more theirs z ∙ rw (lines more) (n.same (lines_of (drop (end + 1) script ++ more)) (drop heard listing ++ theirs));
            sound = n.sound;
            within = omega arith;
            hears = g.hears;
            count = omega (arith, g.count, n.count, taken);
          }

-- the end of the script
module _ {d : Device} {rom : ℕ → ℕ → ℕ} {p : Progress} {ram ours : List ℕ} (s : Sound d p ram ours) where
  pub last-ended : (text : List ℕ) → p.ended ≡ true → Lasts d rom p ram ours text p ram ours
  unfolding answer_from
  last-ended text e = record { same = λ z theirs. rw e; sound = s; count = omega arith }

  pub last_none : (text : List ℕ) → length text ≡ 0 → Lasts d rom p ram ours text p ram ours
  last_none [] e = record { same = λ z theirs. refl; sound = s; count = omega arith }
  last_none (c ∷ text) e = absurd (omega arith)

  pub last_some : (text : List ℕ) {q : Progress} {ram' ours' : List ℕ} → (length text ≡ 0 → ⊥) → p.ended ≡ false → Nexts d rom p ram ours text q ram' ours' → Lasts d rom p ram ours text q ram' ours'
  last_some [] ne e n = absurd (ne refl)
  last_some (c ∷ text) ne e n =
      record { same = λ z theirs. rw (lines_last c text (z e)) (n.same [] theirs); sound = n.sound; count = n.count }
