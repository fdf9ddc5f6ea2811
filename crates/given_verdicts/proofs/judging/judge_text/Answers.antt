-- A text by its parts.
use Rattle.std.proofs.Common.{◌≡◌, ◌-◌, drop, length, take, sym, subst, ap, ◌∙◌, arith}
use Rattle.std.proofs.lemmas.List.{length-drop, take_all}
use Rattle.std.proofs.lemmas.Result.{IfOk-weaker}
use Rattle.given_verdicts.specs.declared.answer.Judged.TheVariants.{Answered}
use Rattle.given_verdicts.specs.Answers.{IsRightlyJudged}
use Rattle.given_verdicts.proofs.Answering.{long_judged, short_text}
use Rattle.given_verdicts.proofs.Flawless.{rightly_judged}
use Rattle.given_verdicts.proofs.judging.judge_text.Goals as goal

pub returns-then-text-gt-LONGEST_GIVEN-clause-exact : goal.returns-then-text-gt-LONGEST_GIVEN-clause-exact
returns-then-text-gt-LONGEST_GIVEN-clause-exact c =
    ap Answered c.refused.ensures ∙ sym (long_judged c.args.text.now c.if-text-gt-LONGEST_GIVEN.true)

pub returns-in-Ok-clause-exact : goal.returns-in-Ok-clause-exact
returns-in-Ok-clause-exact c =
    let text = c.args.text.now in
    let front = c.first_end-at.result.0 in
    let n = length-drop front text in
    let rest : take (length text - front) (drop front text) ≡ drop front text =
    take_all (length text - front) (drop front text) (omega (arith, n)) in
    IfOk-weaker c.on_pieces.result _ _
    (λ a h. h ∙ sym (short_text text front c.first_end-at.result.1 _ c.if-text-gt-LONGEST_GIVEN.false
    c.first_end-at.ensures.bytes c.first_end-at.ensures.line c.in-Ok.ensures.exact)) (rw rest at c.on_pieces.ensures)

pub returns-in-Ok-clause-rightly : goal.returns-in-Ok-clause-rightly
returns-in-Ok-clause-rightly c =
    let text = c.args.text.now in
    let front = c.first_end-at.result.0 in
    let n = length-drop front text in
    let rest : take (length text - front) (drop front text) ≡ drop front text =
    take_all (length text - front) (drop front text) (omega (arith, n)) in
    IfOk-weaker c.on_pieces.result _ _
    (λ a h. subst IsRightlyJudged
    (sym (h ∙ sym (short_text text front c.first_end-at.result.1 _ c.if-text-gt-LONGEST_GIVEN.false
    c.first_end-at.ensures.bytes c.first_end-at.ensures.line c.in-Ok.ensures.exact)))
    (rightly_judged text)) (rw rest at c.on_pieces.ensures)

pub returns-in-Err-Refused-clause-exact : goal.returns-in-Err-Refused-clause-exact
returns-in-Err-Refused-clause-exact c =
    ap Answered (rw c.in-Err-Refused.field-0-is at c.refused-in-Err-Refused.ensures)
    ∙ sym (short_text c.args.text.now c.first_end-at.result.0 c.first_end-at.result.1 _ c.if-text-gt-LONGEST_GIVEN.false
    c.first_end-at.ensures.bytes c.first_end-at.ensures.line (rw c.in-Err-Refused.field-0-is at c.in-Err-Refused.ensures.exact))

pub returns-then-text-gt-LONGEST_GIVEN-clause-rightly : goal.returns-then-text-gt-LONGEST_GIVEN-clause-rightly
returns-then-text-gt-LONGEST_GIVEN-clause-rightly c =
    subst IsRightlyJudged
    (sym (ap Answered c.refused.ensures ∙ sym (long_judged c.args.text.now c.if-text-gt-LONGEST_GIVEN.true)))
    (rightly_judged c.args.text.now)
