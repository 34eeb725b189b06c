-- What the call why answers: document 01's number, 0 where nothing is refused, and what comes with it. "Refusals: 1, 2, 3 as before."
use Rattle.std.specs.Prelude.{ℕ, List, [], ◌∷◌, Some, None, Result, Ok, Err, ◌≡◌, length}
use Rattle.numbers.specs.ComesBack.{Paper, answered, refused, image_of_another_size, record_outside_the_ranges, no_frame}
use Rattle.numbers.specs.Numbered.{refusal_number}
use Rattle.numbers.specs.declared.Refusal.{Refusal}
use Rattle.device.specs.Device.{image_size}
use Rattle.device.specs.declared.Options.{Options}
use Rattle.frame.specs.Frame.{frame_of}
use Rattle.frame.specs.declared.Pins.{Pins}
use Rattle.record.specs.Valid.{Valid}
use Rattle.record.specs.declared.Machine.{Machine}
use Rattle.step_why.specs.declared.Reason.{Reason}
use Rattle.step_why.specs.Why.{why_of}

-- which of the six holds, 1 to 6 in the request's order; the source that is accepted; and the set of sources. 0 where there is none
abbrev pub values_of : Reason → List ℕ
values_of Reason.Waiting = 1 ∷ 0 ∷ 0 ∷ []
values_of Reason.Disabled = 2 ∷ 0 ∷ 0 ∷ []
values_of Reason.Nothing = 3 ∷ 0 ∷ 0 ∷ []
values_of (Reason.Masked latched) = 4 ∷ 0 ∷ latched ∷ []
values_of (Reason.Level due) = 5 ∷ 0 ∷ due ∷ []
values_of (Reason.Accepted t) = 6 ∷ t.source ∷ t.waiting ∷ []

-- document 01's number and values for each case of the answer
abbrev pub paper_of : Result Reason Refusal → Paper
paper_of (Ok reason) = answered (values_of reason)
paper_of (Err refusal) = refused (refusal_number refusal)

-- "Given image, options, record and frame": refusals in the order of document 01's table
pub record WhyAnswer (image : List ℕ) (o : Options) (m : Machine) (frame : List ℕ) (p : Paper) : Type 0 where
  pub refused_1 : (length image ≡ image_size o.device → ⊥) → p ≡ refused image_of_another_size
  pub refused_2 : length image ≡ image_size o.device → (Valid o.device m → ⊥) → p ≡ refused record_outside_the_ranges
  pub refused_3 : length image ≡ image_size o.device → Valid o.device m → frame_of o.device frame ≡ None → p ≡ refused no_frame
  pub says : length image ≡ image_size o.device → Valid o.device m → (pins : Pins) → frame_of o.device frame ≡ Some pins → p ≡ answered (values_of (why_of o m.core pins))
