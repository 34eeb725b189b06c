-- `bound::bound_shown` meets its contract.
use Rattle.std.proofs.Common.{Ok, Err}
use Rattle.std.proofs.lemmas.Result.{err_from_is_err_and}
use mathlib.Core.Path.{sym, ◌∙◌}
use native.Mathlib.Omega.{arith}
use Rattle.laws.proofs.Computed.{true→T}
use Rattle.device.proofs.Laws.{also_nibble, banked, window_fits}
use Rattle.bound_calls.specs.CallAnswer.{gives_1, gives_2, gives_20}
use Rattle.bound.proofs.Answers.{kept, answers}
use Rattle.bound.proofs.bound_shown.Goals as goal

pub returns-then-image-image_size : goal.returns-then-image-image_size
returns-then-image-image_size c = gives_1 (λ e. c.if-image-image_size.true (e ∙ sym c.image_size.ensures)) (kept _ _)

pub returns-then-not-is_banked : goal.returns-then-not-is_banked
returns-then-not-is_banked c = gives_2 (c.if-image-image_size.false ∙ c.image_size.ensures) (λ b. rw (sym c.is_banked.ensures ∙ c.if-not-is_banked.true) at b) (kept _ _)

pub returns-then-address-gt-LAST_ADDRESS : goal.returns-then-address-gt-LAST_ADDRESS
returns-then-address-gt-LAST_ADDRESS c =
    let if1 = c.if-image-image_size in
    let image-size = c.image_size in
    let is-banked = c.is_banked in
    let if2 = c.if-not-is_banked in
    let if3 = c.if-address-gt-LAST_ADDRESS in
    gives_20 (if1.false ∙ image-size.ensures) (true→T (sym is-banked.ensures ∙ if2.false)) if3.true (kept _ _)

pub overflow_cast-p3 : goal.overflow_cast-p3
overflow_cast-p3 c =
    let args = c.args in
    let is-banked = c.is_banked in
    let if2 = c.if-not-is_banked in
    let h = ((banked args.d args.p3).sound (true→T (sym is-banked.ensures ∙ if2.false))).0 in let n = also_nibble args.d 3 in omega arith

pub found-requires : goal.found-requires
found-requires c =
    let if1 = c.if-image-image_size in
    let image-size = c.image_size in
    let args = c.args in
    let is-banked = c.is_banked in
    let if2 = c.if-not-is_banked in
    let if3 = c.if-address-gt-LAST_ADDRESS in
    (rw (if1.false ∙ image-size.ensures) (window_fits args.d args.p3 (true→T (sym is-banked.ensures ∙ if2.false))), omega (arith, if3.false))

pub returns-in_err-found : goal.returns-in_err-found
returns-in_err-found c =
    let p = err_from_is_err_and c.from_residual.result c.from_residual.ensures.1 in
    let a = answers _ _ _ _ _ _ _ _ (Err _) (c.if-image-image_size.false ∙ c.image_size.ensures) (true→T (sym c.is_banked.ensures ∙ c.if-not-is_banked.false)) (omega (arith, c.if-address-gt-LAST_ADDRESS.false)) c.in_err-found.ensures in
    rw (p.1, p.2) a

pub returns : goal.returns
returns c = answers _ _ _ _ _ _ _ _ (Ok _) (c.if-image-image_size.false ∙ c.image_size.ensures) (true→T (sym c.is_banked.ensures ∙ c.if-not-is_banked.false)) (omega (arith, c.if-address-gt-LAST_ADDRESS.false)) c.in_ok-found.ensures
