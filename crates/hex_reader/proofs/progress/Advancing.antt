-- A line takes the stage on: by what it is, and by the stage.
use mathlib.Core.Path.{◌≡◌, refl, sym, ◌∙◌}
use mathlib.Core.List.{List, ◌∷◌}
use Prim.Native.Nat.{ℕ}
use borrow.Author.Tests.{eq-eqb, ne_eqb}
use Rattle.std.specs.Prelude.{Result, Ok, Err}
use Rattle.std.specs.Borrow.{Bor}
use Rattle.numbers.specs.Numbered.{refusal_number}
use Rattle.numbers.specs.declared.Refusal.{Refusal}
use Rattle.numbers.specs.declared.Refusal.TheVariants.{EndMissingOrTextAfter}
use Rattle.hex_reader.specs.Record.{Judged, end_record, faulty, line_of}
use Rattle.hex_reader.specs.declared.line.Line.{Line}
use Rattle.hex_reader.specs.declared.line.Line.TheVariants.{Data, End}
use Rattle.hex_reader.specs.Fault.{number_of}
use Rattle.hex_reader.specs.Given.{refusal_of}
use Rattle.hex_reader.specs.Takes.{record_of, Takes}
use Rattle.hex_reader.specs.Progress.{Progress, going, ended, good, refused, after_judged, after_line, at_end}
use Rattle.hex_reader.specs.Reached.{Held, TakenOn}
use Rattle.hex_reader.specs.declared.progress.Stage.TheVariants.{Going, Ended}
use Rattle.hex_reader.proofs.Refusals.{refusal-ne0}

-- from a stage that goes on, to what the line is judged
after_going : {image_size : ℕ} {w : List ℕ} {p : Progress} (n : ℕ) (l : List ℕ) (j : Judged) (h : Held image_size going w p) → j ≡ line_of l → after_line image_size p n l ≡ after_judged image_size h.records n j
after_going n l j h e = rw (h.is, ← e)

module _ {image_size : ℕ} where
  pub takes-data : (address : ℕ) (digits : Bor (List ℕ)) (before after : List ℕ) (r : Result Unit Refusal) → Takes image_size before after (record_of address digits.now) r → number_of r ≡ 0 → TakenOn image_size (Ok (Data address digits)) Going before after (Ok Going)
  takes-data address digits before after r t z n =
      record {
        size = t.size;
        reached = λ p h l e.
            let q : refusal_of image_size h.records (record_of address digits.now) ≡ 0 = sym (t.answer h.records h.holds) ∙ z in
            record {
              records = record_of address digits.now ∷ h.records;
              is = after_going n l _ h e ∙ rw (eq-eqb _ 0 q);
              holds = t.held h.records h.holds z;
            };
      }

  pub refuses-data : (address : ℕ) (digits : Bor (List ℕ)) (before after : List ℕ) (refusal : Refusal) → Takes image_size before after (record_of address digits.now) (Err refusal) → TakenOn image_size (Ok (Data address digits)) Going before after (Err refusal)
  refuses-data address digits before after refusal t n =
      record {
        size = t.size;
        reached = λ p h l e.
            let q : refusal_number refusal ≡ refusal_of image_size h.records (record_of address digits.now) = t.answer h.records h.holds in
            after_going n l _ h e ∙ rw (← q, ne_eqb (refusal_number refusal) 0 (refusal-ne0 refusal));
      }

  pub takes-end : (before : List ℕ) → TakenOn image_size (Ok End) Going before before (Ok Ended)
  takes-end before n =
      record {
        size = refl;
        reached = λ p h l e. record { records = h.records; is = after_going n l end_record h e; holds = h.holds };
      }

  pub takes-fault : (refusal : Refusal) (before : List ℕ) → TakenOn image_size (Err refusal) Going before before (Err refusal)
  takes-fault refusal before n = record { size = refl; reached = λ p h l e. after_going n l (faulty (refusal_number refusal)) h e }

  pub after-end : (line : Result Line Refusal) (before : List ℕ) → TakenOn image_size line Ended before before (Err EndMissingOrTextAfter)
  after-end line before n = record { size = refl; reached = λ p h l e. rw h.is }

-- the end of the text
pub ends_going : {image_size : ℕ} {w : List ℕ} {p : Progress} (n : ℕ) → Held image_size going w p → at_end p n ≡ refused 45 n
ends_going n h = rw h.is

pub ends_good : {image_size : ℕ} {w : List ℕ} {p : Progress} (n : ℕ) → Held image_size ended w p → Held image_size good w (at_end p n)
ends_good n h = record { records = h.records; is = rw h.is; holds = h.holds }
