-- `reader::read_shown` meets its contract.
use mathlib.Core.Path.{◌≡◌, sym, ◌∙◌}
use mathlib.Core.Bool.{true}
use native.Mathlib.Omega.{arith}
use Rattle.laws.proofs.Computed.{T→true}
use Rattle.device.specs.Device.{rom_of, is_banked}
use Rattle.reader.proofs.Answers.{decoded, as_read}
use Rattle.reader.proofs.read_shown.Goals as goal

pub returns : goal.returns
returns c =
    let of = c.in_ok-of.ensures.ok in
    let shown = c.in_ok-window.ensures.ok in
    let bytes : c.in_ok-window.window.bytes.now ≡ c.args.image.now = shown.1 ∙ of.2 in
    let p3 : c.in_ok-window.window.p3 ≡ c.args.p3 = shown.2 in
    let banked : is_banked c.args.d c.args.p3 ≡ true = T→true _ (rw of.1 at shown.0) in
    decoded (rom_of c.in_ok-window.window.bytes.now c.in_ok-window.window.p3) c.args.address _ _ _ (sym c.read_at.ensures ∙ c.in_ok-insn.was) (rw c.byte.ensures at c.timing-cost.ensures.timed_from)
    ∙ rw (bytes, p3) (as_read c.args.d c.args.image.now c.args.p3 c.args.address of.0 banked (omega arith))
