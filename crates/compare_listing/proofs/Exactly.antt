-- The whole answer: accepted exactly where the listing is ours, and what is named differs.
use mathlib.Core.Path.{◌≡◌, refl, sym, ◌∙◌}
use mathlib.Core.Bool.{Bool, true, false}
use mathlib.Core.List.{List, [], ◌∷◌, ◌++◌, append_assoc}
use Prim.Native.Nat.{ℕ}
use native.Mathlib.Omega.{arith}
use borrow.Author.Tests.{eq-eqb}
use lib.Dec.{eqb}
use lib.ListN.{length}
use Rattle.laws.specs.Choice.{pick, either}
use Rattle.laws.proofs.Computed.{true→T}
use Rattle.device.specs.Device.{image_size, rom_of}
use Rattle.device.specs.declared.Device.{Device}
use Rattle.frame.specs.Frame.{frame_of}
use Rattle.frame.specs.declared.Pins.{Pins}
use Rattle.numbers.specs.declared.Refusal.{Refusal}
use Rattle.std.specs.Prelude.{Option, Some, None, Result, Ok, Err}
use Rattle.record.specs.declared.Core.{Core}
use Rattle.record.specs.declared.Machine.{Machine}
use Rattle.record.specs.Start.{fresh_machine}
use Rattle.text.specs.Digits.{characters}
use Rattle.listing.specs.Lines.{step_line}
use Rattle.text.specs.Script.{lines_of}
use Rattle.listing.specs.Listing.{Answer, frame_answer, answer_of, told_over, listing_of}
use Rattle.compare_lines.specs.Lines.{whole, cut, difference_of}
use Rattle.compare_lines.specs.Named.{Named}
use Rattle.compare_lines.specs.declared.Compared.{Compared}
use Rattle.compare_lines.specs.declared.Compared.TheVariants.{Same, Differs}
use Rattle.compare_lines.proofs.Cutting.{cut_whole}
use Rattle.compare_lines.proofs.Naming.{difference_tells}
use Rattle.compare_listing.specs.Compared.{is_no_frame, reads_no_frame, compared_of}
use Rattle.compare_listing.specs.Exactly.{AllSpaced, StepLines, AllCompareExactly}
use Rattle.compare_listing.proofs.OurLines.{step_body, step_ended, step_alone}
use Rattle.compare_listing.proofs.Fields.{step_fields}

-- a step's line, and what comes after it
step_cut : (m : Core) (cycles stop : ℕ) (rest : List ℕ) → cut (step_line m cycles stop ++ rest) ≡ whole (step_body m cycles stop) ∷ cut rest
step_cut m cycles stop rest = rw (step_ended m cycles stop, append_assoc (step_body m cycles stop) (10 ∷ []) rest) (cut_whole (step_body m cycles stop) rest (step_alone m cycles stop))

step_then : (m : Core) (cycles stop : ℕ) (rest : List ℕ) → AllSpaced (cut rest) → AllSpaced (cut (step_line m cycles stop ++ rest))
step_then m cycles stop rest h = rw (step_cut m cycles stop rest) (step_fields m cycles stop, h)

neither : (a b : Bool) → either a b ≡ false → (a ≡ false) × (b ≡ false)
neither true b e = absurd (true→T (sym e))
neither false b e = (refl, e)

module _ (d : Device) (rom : ℕ → ℕ → ℕ) where
  -- what is told after a line
  rest-by : (t : Bool) (m : Machine) (ls : List (List ℕ)) → pick t false (reads_no_frame d rom m ls) ≡ false → (reads_no_frame d rom m ls ≡ false → AllSpaced (cut (told_over d rom m ls))) → AllSpaced (cut (pick t [] (told_over d rom m ls)))
  rest-by true m ls e ih = tt
  rest-by false m ls e ih = ih e

  line_by : (f : Option Pins) (m : Machine) (l : List ℕ) (ls : List (List ℕ)) → frame_of d l ≡ f → reads_no_frame d rom m (l ∷ ls) ≡ false
      → ((n : Machine) → reads_no_frame d rom n ls ≡ false → AllSpaced (cut (told_over d rom n ls))) → AllSpaced (cut (told_over d rom m (l ∷ ls)))
  unfolding answer_of
  line_by (Some pins) m l ls e r ih =
      let x = neither (is_no_frame (frame_of d l)) _ r in
      let a : Answer = frame_answer d rom m (Some pins) in
      rw e (step_then _ _ _ _ (rest-by a.ends a.machine ls (rw e at x.1) (ih a.machine)))
  line_by None m l ls e r ih = absurd (true→T (sym (rw e at (neither (is_no_frame (frame_of d l)) _ r).0)))

  told-spaced : (ls : List (List ℕ)) (m : Machine) → reads_no_frame d rom m ls ≡ false → AllSpaced (cut (told_over d rom m ls))
  told-spaced [] m r = tt
  told-spaced (l ∷ ls) m r = line_by (frame_of d l) m l ls refl r (λ n h. told-spaced ls n h)

ok_is : {x y : Compared} → ◌≡◌ {A = Result Compared Refusal} (Ok x) (Ok y) → x ≡ y
ok_is e = cc

module _ (d : Device) (image script listing : List ℕ) where
  abbrev bad : Bool
  bad = reads_no_frame d (rom_of image) (fresh_machine d) (lines_of script)

  abbrev told : List ℕ
  told = told_over d (rom_of image) (fresh_machine d) (lines_of script)

  abbrev answer : Bool → Bool → Result Compared Refusal
  answer t u = pick t (pick u (Err Refusal.NoFrame) (Ok (difference_of (listing_of d image script) listing))) (Err Refusal.ImageOfAnotherSize)

  is-answer : compared_of d image script listing ≡ answer (eqb (length image) (image_size d)) bad
  unfolding compared_of
  is-answer = refl

  only : (t u : Bool) → answer t u ≡ Ok Same → listing ≡ listing_of d image script
  only false u e = let z : ◌≡◌ {A = ℕ} 0 1 = cc in absurd (omega arith)
  only true true e = let z : ◌≡◌ {A = ℕ} 0 1 = cc in absurd (omega arith)
  only true false e = sym ((difference_tells (listing_of d image script) listing).same_only (ok_is e))

  step_lines : eqb (length image) (image_size d) ≡ true → bad ≡ false → StepLines (listing_of d image script)
  unfolding listing_of
  step_lines t u = rw t (record { steps = cut told; lines = cut_whole (characters "PC A H L S CZS C X") told refl; spacing = told-spaced d (rom_of image) (lines_of script) (fresh_machine d) u })

  names : (n f : ℕ) (t u : Bool) → eqb (length image) (image_size d) ≡ t → bad ≡ u → answer t u ≡ Ok (Differs n f) → Named (listing_of d image script) listing n f × StepLines (listing_of d image script)
  names n f false u a b e = let z : ◌≡◌ {A = ℕ} 0 1 = cc in absurd (omega arith)
  names n f true true a b e = let z : ◌≡◌ {A = ℕ} 0 1 = cc in absurd (omega arith)
  names n f true false a b e = ((difference_tells (listing_of d image script) listing).names n f (ok_is e), step_lines a b)

pub all_compare_exactly : AllCompareExactly
all_compare_exactly d image script listing =
    let is = is-answer d image script listing in
    record {
      same_only = λ e. only d image script listing (eqb (length image) (image_size d)) (bad d image script listing) (sym is ∙ e);
      same_if = λ l u e. is ∙ rw (eq-eqb (length image) (image_size d) l, u, (difference_tells (listing_of d image script) listing).same_if (sym e));
      names = λ n f e. names d image script listing n f (eqb (length image) (image_size d)) (bad d image script listing) refl refl (sym is ∙ e);
    }
