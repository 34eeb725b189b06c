-- For every cutting of script and listing into parts the answer is that of the definition on the whole texts.
use mathlib.Core.Path.{◌≡◌, sym, ap, ◌∙◌}
use mathlib.Core.List.{List, []}
use Prim.Native.Nat.{ℕ}
use Rattle.std.specs.Prelude.{Result, Ok}
use Rattle.numbers.specs.declared.Refusal.{Refusal}
use Rattle.device.specs.declared.Device.{Device}
use Rattle.text.specs.Script.{lines_of}
use Rattle.compare_lines.specs.Left.{left_of}
use Rattle.compare_lines.specs.declared.Compared.{Compared}
use Rattle.compare_lines.specs.declared.Phase.{Phase}
use Rattle.compare_listing.specs.Progress.{answer_from}
use Rattle.compare_listing.specs.Session.{Concludes, Session, AnyCutting}
use Rattle.compare_listing.specs.declared.Progress.{Progress}
use Rattle.compare_listing.proofs.Whole.{answer-bad, answer-left, start-answer}

concluded : {n : ℕ} {line : List ℕ} {a : Compared} {phase : Phase} {rest : List ℕ} → Concludes n line a phase rest → left_of phase n line [] rest ≡ a
concluded (Concludes.hears part more h c) = h.same [] more ∙ concluded c
concluded (Concludes.answers e) = e

answered : {d : Device} {rom : ℕ → ℕ → ℕ} {a : Result Compared Refusal} {p : Progress} {ram ours script listing : List ℕ} → Session d rom a p ram ours script listing → answer_from d rom p ram ours (lines_of script) listing ≡ a
answered (Session.goes script more listing theirs g z s) = g.same more theirs z ∙ answered s
answered (Session.refused l e b n) = l.same e _ ∙ (answer-bad _ _ _ _ _ _ b ∙ sym n)
answered (Session.ends l e b c k) = l.same e _ ∙ (answer-left _ _ _ _ _ _ b ∙ (ap Ok (concluded c) ∙ sym k))

pub any_cutting : AnyCutting
any_cutting d image script listing a e s = start-answer d image script listing e ∙ answered s
