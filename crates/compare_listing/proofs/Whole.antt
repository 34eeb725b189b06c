-- Script and listing whole: from the header to the answer.
use mathlib.Core.Path.{◌≡◌, refl, sym, ◌∙◌}
use mathlib.Core.Bool.{Bool, true, false}
use mathlib.Core.List.{List, [], append-nil}
use Prim.Native.Nat.{ℕ, ◌+◌, ◌-◌, ◌<◌}
use native.Mathlib.Omega.{arith}
use borrow.Author.Tests.{eq-eqb, ne_eqb}
use lib.ListN.{length, take, drop, length-drop}
use Rattle.laws.proofs.Computed.{true→T}
use Rattle.device.specs.Device.{image_size, rom_of}
use Rattle.device.specs.declared.Device.{Device}
use Rattle.record.specs.Start.{fresh_machine}
use Rattle.record.proofs.start.Starting.{fresh_valid}
use Rattle.listing.specs.Lines.{header}
use Rattle.text.specs.Script.{lines_of, up_to}
use Rattle.listing.specs.Listing.{listing_of}
use Rattle.compare_lines.specs.Lines.{difference_of}
use Rattle.compare_lines.specs.Left.{left_of, settled}
use Rattle.numbers.specs.declared.Refusal.{Refusal}
use Rattle.std.specs.Prelude.{Ok, Err}
use Rattle.compare_listing.specs.Compared.{compared_of}
use Rattle.compare_listing.specs.Progress.{answer_from, begun, Sound, Lasts, Goes}
use Rattle.compare_listing.specs.declared.Progress.{Progress}
use Rattle.compare_listing.specs.declared.Gone.{Gone}
use Rattle.compare_listing.proofs.OurLines.{header_line}
use Rattle.compare_lines.proofs.Hearing.{rest_of}

module _ {d : Device} {rom : ℕ → ℕ → ℕ} {p : Progress} {ram ours script listing : List ℕ} {r : Gone} {ram' ours' : List ℕ} (g : Goes d rom p ram ours script listing true r ram' ours') where
  settled-by : (t : Bool) → settled r.progress.phase (length ours') ≡ t → settled r.progress.phase (length ours') ≡ true
  settled-by true e = e
  settled-by false e = absurd (true→T (sym (g.waits e).0))

  pub whole-settled : settled r.progress.phase (length ours') ≡ true
  whole-settled = settled-by (settled r.progress.phase (length ours')) refl

  rest-size : length (take (length script - r.script) (drop r.script script)) ≡ length script - r.script
  rest-size = rw (rest_of r.script script) (length-drop r.script script)

  module _ {q : Progress} {ram'' ours'' : List ℕ} (l : Lasts d rom r.progress ram' ours' (take (length script - r.script) (drop r.script script)) q ram'' ours'') where
    pub whole-left : answer_from d rom p ram ours (lines_of script) listing ≡ answer_from d rom q ram'' ours'' [] (take (length listing - r.listing) (drop r.listing listing))
    whole-left =
        let e = rw (append-nil script, append-nil listing, append-nil (drop r.script script), append-nil (drop r.listing listing)) at (g.same [] [] (λ z. refl)) in
        let n : r.progress.ended ≡ false → up_to (take (length script - r.script) (drop r.script script)) ≡ length (take (length script - r.script) (drop r.script script)) = λ z. rw (rest_of r.script script) (g.ends whole-settled z) in
        rw (rest_of r.listing listing) (e ∙ rw (rest_of r.script script) at (l.same n (drop r.listing listing)))

    pub last_fits : p.line + p.line + length script < 36893488147419103229 → q.line + 1 < 18446744073709551616
    last_fits h = omega (arith, l.count, g.count, g.read, rest-size)

module _ (d : Device) (rom : ℕ → ℕ → ℕ) (q : Progress) (ram ours theirs : List ℕ) where
  pub answer-bad : q.bad ≡ true → answer_from d rom q ram ours [] theirs ≡ Err Refusal.NoFrame
  unfolding answer_from
  answer-bad e = rw e

  left_by : (t : Bool) → q.ended ≡ t → q.bad ≡ false → answer_from d rom q ram ours [] theirs ≡ Ok (left_of q.phase q.line ours [] theirs)
  unfolding answer_from
  left_by true f e = rw (e, f)
  left_by false f e = rw (e, f)

  pub answer-left : q.bad ≡ false → answer_from d rom q ram ours [] theirs ≡ Ok (left_of q.phase q.line ours [] theirs)
  answer-left e = left_by q.ended refl e

-- "judged before the listing is"
pub another_size : (d : Device) (image script listing : List ℕ) → (length image ≡ image_size d → ⊥) → compared_of d image script listing ≡ Err Refusal.ImageOfAnotherSize
unfolding compared_of
another_size d image script listing n = rw (ne_eqb (length image) (image_size d) n)

module _ (d : Device) where
  pub start-sound : Sound d (begun (fresh_machine d).core) (fresh_machine d).ram header
  start-sound = record { valid = fresh_valid d; line = header_line; placed = omega arith; fair = λ z. refl }

  pub start-answer : (image script listing : List ℕ) → length image ≡ image_size d → compared_of d image script listing ≡ answer_from d (rom_of image) (begun (fresh_machine d).core) (fresh_machine d).ram header (lines_of script) listing
  unfolding compared_of answer_from listing_of difference_of
  start-answer image script listing e = rw (eq-eqb (length image) (image_size d) e)
