-- A text by its parts.
use Rattle.std.proofs.Common.{◌≡◌, ◌-◌, ◌∙◌, drop, length, take, arith}
use Rattle.std.proofs.lemmas.List.{length-drop, take_all}
use Rattle.std.proofs.lemmas.Result.{IfOk-weaker}
use Rattle.plan_top.proofs.notes.Reading.{long_in, short_in}
use Rattle.plan_top.proofs.notes.again.given_in.Goals as goal

pub returns-then-text-gt-LONGEST_GIVEN : goal.returns-then-text-gt-LONGEST_GIVEN
returns-then-text-gt-LONGEST_GIVEN c = long_in c.args.text.now c.if-text-gt-LONGEST_GIVEN.true

pub returns-in-Ok : goal.returns-in-Ok
returns-in-Ok c =
    let text = c.args.text.now in
    let front = c.first_end-at.result.0 in
    let n = length-drop front text in
    let rest : take (length text - front) (drop front text) ≡ drop front text =
    take_all (length text - front) (drop front text) (omega (arith, n)) in
    IfOk-weaker c.with_description.result _ _
    (λ found is. is ∙ short_in text front c.first_end-at.result.1 _ c.if-text-gt-LONGEST_GIVEN.false c.first_end-at.ensures.bytes
    c.first_end-at.ensures.line c.in-Ok.ensures.exact) (rw rest at c.with_description.ensures)

pub returns-in-Err-Refused : goal.returns-in-Err-Refused
returns-in-Err-Refused c =
    short_in c.args.text.now c.first_end-at.result.0 c.first_end-at.result.1 _ c.if-text-gt-LONGEST_GIVEN.false
    c.first_end-at.ensures.bytes c.first_end-at.ensures.line (rw c.in-Err-Refused.field-0-is at c.in-Err-Refused.ensures.exact)
