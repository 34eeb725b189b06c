-- Between two lines of a text: what is reached, and that the rest of the lines leads to what the whole text is.
use mathlib.Core.Path.{◌≡◌, refl, sym, ap, subst, ◌∙◌}
use mathlib.Core.List.{List, []}
use Prim.Native.Nat.{ℕ, suc, ◌+◌, ◌-◌, ◌*◌, ◌≤◌}
use native.Mathlib.Omega.{arith}
use lib.ListN.{length, drop, drop_of_length-le}
use Rattle.hex_reader.specs.declared.line.Line.{Line}
use Rattle.hex_reader.specs.Lines.{hex_lines}
use Rattle.hex_reader.specs.Found.{RecordAt}
use Rattle.hex_reader.specs.Work.{work_size, Holds}
use Rattle.hex_reader.specs.Progress.{Progress, going, stopped, after_line, after_lines, at_end, read_lines, read_of}
use Rattle.hex_reader.specs.Reached.{Reached, Concluded, Advances}
use Rattle.hex_reader.specs.declared.progress.Stage.{Stage}
use Rattle.hex_reader.specs.declared.progress.Stage.TheVariants.{Going}
use Rattle.std.specs.Prelude.{Result, Ok, Err}
use Rattle.numbers.specs.Numbered.{refusal_number}
use Rattle.numbers.specs.declared.Refusal.{Refusal}
use Rattle.hex_reader.specs.declared.fault.HexFault.{HexFault}
use Rattle.hex_reader.proofs.progress.Stops.{stays, good_long}

-- before line n, which begins at a place; each line before it has eleven characters at least
pub record Midway (image_size : ℕ) (text work : List ℕ) (stage : Stage) (at n : ℕ) : Type 0 where
  pub progress : Progress
  pub reached : Reached image_size (Ok stage) work progress
  pub left : read_of image_size text ≡ read_lines image_size progress n (hex_lines (drop at text))
  pub size : length work ≡ work_size image_size
  pub counted : 11 * n ≤ at + 11
  pub within : at ≤ length text

pub start : {image_size : ℕ} (text work : List ℕ) → Holds image_size work [] → Midway image_size text work Going 0 1
unfolding read_of
start text work h =
    record {
      progress = going [];
      reached = record { records = []; is = refl; holds = h };
      left = refl;
      size = h.size;
      counted = omega arith;
      within = omega arith;
    }

-- the text is over
pub over : {image_size : ℕ} (o : Result Unit HexFault) {text work : List ℕ} {stage : Stage} {at n : ℕ} → Midway image_size text work stage at n → length text ≤ at → ((p : Progress) → Reached image_size (Ok stage) work p → Concluded image_size o work (at_end p n)) → Concluded image_size o work (read_of image_size text)
over {image_size} o {text} {work} {stage} {at} {n} m h f =
    let z : n + 0 ≡ n = omega arith in
    let e : read_of image_size text ≡ at_end m.progress n = m.left ∙ rw (drop_of_length-le text h, z) in
    subst (Concluded image_size o work) (sym e) (f m.progress m.reached)

module _ {image_size : ℕ} {text work after : List ℕ} {stage : Stage} {r : Result Stage HexFault} {line : Result Line Refusal} {at n next : ℕ} (m : Midway image_size text work stage at n) (f : RecordAt text at line next) (a : Advances image_size line n stage work after r) where
  abbrev p : Progress
  p = after_line image_size m.progress n f.line

  on : Reached image_size r after p
  on = a.reached m.progress m.reached f.line f.meaning

  left-on : read_of image_size text ≡ read_lines image_size p (n + 1) (hex_lines (drop next text))
  left-on =
      let k : n + 1 ≡ suc n = omega arith in
      let e : n + suc (length (hex_lines (drop next text))) ≡ suc n + length (hex_lines (drop next text)) = omega arith in
      m.left ∙ rw (f.lines, k) (ap (at_end (after_lines image_size p (suc n) (hex_lines (drop next text)))) e)

  -- a line stops the reading
  pub stops : (first : HexFault) → r ≡ Err first → Concluded image_size (Err first) after (read_of image_size text)
  stops first e =
      let q : p ≡ stopped (refusal_number first.refusal) first.line = rw e at on in
      left-on ∙ rw (q, stays image_size (refusal_number first.refusal) first.line (n + 1) (hex_lines (drop next text)))

  pub goes_on : (s : Stage) → r ≡ Ok s → Midway image_size text after s next (n + 1)
  goes_on s e =
      let q : Reached image_size (Ok s) after p = rw e at on in
      let long = good_long image_size line s after m.progress n (next - at) f.line q f.meaning f.long in
      let c = m.counted in
      record {
        progress = p;
        reached = q;
        left = left-on;
        size = a.size ∙ m.size;
        counted = omega arith;
        within = f.within;
      }
