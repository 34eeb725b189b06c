-- The script read in parts: what is printed over all of them is the listing. Each law is a way on or an end of the runner's loop.
use mathlib.Core.Path.{◌≡◌, refl, sym, ap, ◌∙◌}
use mathlib.Core.Bool.{Bool, true, false}
use mathlib.Core.List.{List, [], ◌∷◌, ◌++◌, append_assoc, append-nil}
use Prim.Native.Nat.{ℕ, ◌<◌}
use native.Mathlib.Omega.{arith}
use borrow.Author.Tests.{eq-eqb, ne_eqb}
use lib.ListN.{length, drop}
use Rattle.std.specs.Prelude.{None}
use Rattle.laws.specs.Choice.{pick}
use Rattle.device.specs.Device.{image_size, frame_size, digits_of, rom_of}
use Rattle.device.specs.declared.Device.{Device}
use Rattle.frame.specs.Frame.{frame_of}
use Rattle.frame.proofs.Characters.{no_frame, not_seen}
use Rattle.record.specs.Start.{fresh_machine}
use Rattle.record.specs.declared.Machine.{Machine}
use Rattle.record.specs.With.{assembled}
use Rattle.text.specs.Refusal.{refused_line}
use Rattle.listing.specs.Lines.{header}
use Rattle.text.specs.Script.{lines_of, up_to}
use Rattle.listing.specs.Listing.{answer_of, told_over, listing_of}
use Rattle.listing.specs.Tells.{Feeds}
use Rattle.listing.specs.declared.Fed.{Fed}
use Rattle.text.proofs.script.Ends.{lines_last, begins}

-- "A bad or unreadable image .. prints "refused 01""
pub image_refused : (d : Device) (image script : List ℕ) → (length image ≡ image_size d → ⊥) → listing_of d image script ≡ refused_line 1
unfolding listing_of
image_refused d image script n = rw (ne_eqb (length image) (image_size d) n)

-- with the rest of the script still to be told from a record, what is printed is the beginning of the listing
pub record Going (d : Device) (image script printed rest : List ℕ) (m : Machine) : Type 0 where
  pub so : printed ++ told_over d (rom_of image) m (lines_of rest) ≡ listing_of d image script

too_long : (d : Device) (line : List ℕ) → frame_size d < length line → frame_of d line ≡ None
too_long d line h = not_seen d line (no_frame (digits_of d) line (λ e. omega arith))

bad_text : (d : Device) (rom : ℕ → ℕ → ℕ) (m : Machine) (line : List ℕ) (ls : List (List ℕ)) → frame_size d < length line → told_over d rom m (line ∷ ls) ≡ refused_line 3
unfolding answer_of
bad_text d rom m line ls h = rw (too_long d line h) (append-nil (refused_line 3))

bad_answer_lem : (d : Device) (rom : ℕ → ℕ → ℕ) (m : Machine) (line : List ℕ) → frame_size d < length line → (answer_of d rom m line).text ≡ refused_line 3
unfolding answer_of
bad_answer_lem d rom m line h = rw (too_long d line h)

nothing : (t : Bool) → ◌≡◌ {A = List ℕ} (pick t [] []) []
nothing true = refl
nothing false = refl

module _ {d : Device} {image script : List ℕ} where
  pub going-first : length image ≡ image_size d → Going d image script header script (fresh_machine d)
  unfolding listing_of
  going-first e = record { so = rw (eq-eqb (length image) (image_size d) e) }

  module _ {printed : List ℕ} {m : Machine} where
    module _ (part future : List ℕ) {before after ram : List ℕ} {room : ℕ} {r : Fed} (g : Going d image script printed (part ++ future) m) (f : Feeds d (rom_of image) m part before after room ram r) where
      pub going_on : r.ended ≡ false → Going d image script (printed ++ f.text) (drop r.used part ++ future) (assembled r.core ram)
      going_on z = record { so = rw append_assoc (ap (λ (l : List ℕ). printed ++ l) (sym (rw z at (f.told future))) ∙ g.so) }

      pub going-ended : r.ended ≡ true → printed ++ f.text ≡ listing_of d image script
      going-ended z = ap (λ (l : List ℕ). printed ++ l) (sym (append-nil f.text) ∙ sym (rw z at (f.told future))) ∙ g.so

    -- the script ends after whole lines, or with a line that no LF ends
    pub going-none : Going d image script printed [] m → printed ≡ listing_of d image script
    going-none g = sym (append-nil printed) ∙ g.so

    pub going-last : (c : ℕ) (s : List ℕ) → Going d image script printed (c ∷ s) m → up_to (c ∷ s) ≡ length (c ∷ s) → printed ++ (answer_of d (rom_of image) m (c ∷ s)).text ≡ listing_of d image script
    going-last c s g h = rw (lines_last c s h, nothing (answer_of d (rom_of image) m (c ∷ s)).ends, append-nil (answer_of d (rom_of image) m (c ∷ s)).text) at g.so

    -- of a line that is too long the beginning is enough
    pub going-long : (c : ℕ) (s future : List ℕ) → Going d image script printed ((c ∷ s) ++ future) m → up_to (c ∷ s) ≡ length (c ∷ s) → frame_size d < length (c ∷ s) → printed ++ (answer_of d (rom_of image) m (c ∷ s)).text ≡ listing_of d image script
    going-long c s future g h l =
        let b = begins c s future h in
        let t = rw b.lines at g.so in
        rw (bad_answer_lem d (rom_of image) m (c ∷ s) l, ← bad_text d (rom_of image) m b.line b.others (omega arith)) t
