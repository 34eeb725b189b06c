-- A line that is complete takes the stage on.
use mathlib.Core.Path.{◌≡◌, sym}
use mathlib.Core.Bool.{Bool, true, false}
use mathlib.Core.List.{List, [], ◌∷◌}
use Prim.Native.Nat.{ℕ, suc, ◌≤◌}
use native.Mathlib.Omega.{arith}
use lib.ListN.{length}
use Rattle.std.specs.Prelude.{Result, Ok, Err, Option, Some, None, MatchOption, IsSomeAnd}
use Rattle.std.specs.Borrow.{Bor}
use Rattle.laws.specs.Choice.{pick}
use Rattle.numbers.specs.declared.Refusal.{Refusal}
use Rattle.numbers.specs.declared.Refusal.TheVariants.{MalformedOrEndWithBytes}
use Rattle.hex_reader.specs.Record.{faulty, line_of}
use Rattle.hex_reader.specs.Reads.{Judges}
use Rattle.hex_reader.specs.declared.line.Line.{Line}
use Rattle.hex_reader.proofs.line.Records.{long_line}
use Rattle.hex_reader.specs.Lines.{is_cr, without_cr}
use Rattle.hex_reader.specs.Reached.{Advances}
use Rattle.hex_reader.specs.declared.fault.HexFault.{HexFault}
use Rattle.hex_reader.specs.declared.progress.Stage.{Stage}
use Rattle.hex_reader.proofs.progress.Stops.{good_long}
use Rattle.hex_chunks.specs.Kept.{Characters, Completes}

module _ {image_size n : ℕ} {stage : Stage} {before after : List ℕ} where
  pub completes : (line : List ℕ) (judged : Result Line Refusal) (r : Result Stage HexFault) → Judges line judged → Advances image_size judged n stage before after r → Completes image_size line n stage before after r
  completes line judged (Ok s) j a =
      record {
        size = a.size;
        reached = λ p h. a.reached p h line j.meaning;
        long = λ p h e. good_long image_size judged s after p n (length line) line (a.reached p h line j.meaning) j.meaning j.long;
      }
  completes line judged (Err first) j a =
      record { size = a.size; reached = λ p h. a.reached p h line j.meaning; long = λ p h e. cc }

  pub completes-long : (line : List ℕ) (r : Result Stage HexFault) → 522 ≤ length line → Advances image_size (Err MalformedOrEndWithBytes) n stage before after r → Completes image_size line n stage before after r
  completes-long line r h a =
      let m : faulty 40 ≡ line_of line = sym (long_line line h) in
      record { size = a.size; reached = λ p q. a.reached p q line m; long = λ p q e. omega arith }

pick_length : (t : Bool) (c : ℕ) → 1 ≤ suc (length (pick t [] (c ∷ [])))
pick_length true c = omega arith
pick_length false c = omega arith

-- a CR is one character
cr_one : (line : List ℕ) → length line ≤ suc (length (without_cr line))
cr_one [] = omega arith
cr_one (c ∷ []) = pick_length (is_cr c) c
cr_one (c ∷ d ∷ line) = let h = cr_one (d ∷ line) in omega arith

pub shorter : (r : Option (Bor (List ℕ))) (line : List ℕ) → Characters 523 r line → Characters 522 r line
shorter (Some x) line h = h
shorter None line h = omega arith

pub cut_short : (r : Option (Bor (List ℕ))) (cut : Option (Bor (List ℕ))) (line : List ℕ) → Characters 523 r line → MatchOption r (cut ≡ None) (λ x. IsSomeAnd cut (λ y. y.now ≡ without_cr x.now)) → Characters 522 cut (without_cr line)
cut_short None cut line h e = rw e (omega (arith, cr_one line))
cut_short (Some x) None line h e = absurd e
cut_short (Some x) (Some y) line h e = rw h at e
