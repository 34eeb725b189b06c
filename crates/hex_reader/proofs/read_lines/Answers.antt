-- `hex_reader::read_lines` meets its contract: between two lines the rest of the text leads to what the whole text is.
use mathlib.Core.Path.{refl, ◌∙◌}
use Rattle.hex_reader.specs.Found.{RecordAt}
use Rattle.hex_reader.proofs.Midway.{start, stops}
use Rattle.std.proofs.lemmas.Result.{err_from_is_err_and}
use Rattle.hex_reader.proofs.read_lines.Goals as goal

pub loop-line-init : goal.loop-line-init
loop-line-init c = record { midway = start _ _ c.clear.ensures; same = refl }

pub returns-in_err-stage : goal.returns-in_err-stage
returns-in_err-stage c =
    let p = err_from_is_err_and c.from_residual.result c.from_residual.ensures.1 in
    let m = c.loop-line.invariant.midway in
    let f : RecordAt c.args.text.now c.loop-line.reader.at c.in-Some.line c.next.new.self.at = rw c.loop-line.invariant.same at c.in-Some.ensures.found in
    rw (p.1, p.2) (c.after_line.ensures.size ∙ m.size, stops m f c.after_line.ensures _ c.in_err-stage.was)
