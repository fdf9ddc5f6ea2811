use Rattle.std.proofs.Common.{ℕ, ◌≡◌, ◌∙◌, ap, subst, sym, take, arith}
use Rattle.given_verdicts.specs.declared.answer.Judged.{Judged}
use Rattle.given_verdicts.specs.declared.answer.Judged.TheVariants.{Answered, Flawless}
use Rattle.given_verdicts.specs.Answers.{judged_text}
use Rattle.verdict_laws.proofs.Holding.{IsOfFlawless, IsTold, text_told}
use Rattle.verdict_laws.proofs.Links.{few_links}
use Rattle.given_top.specs.Checked.{check_text}
use Rattle.given_top.proofs.Beside.{long_tells, part_tells, short_tells}
use Rattle.given_top.proofs.Checks.{judged, no_memory, told, too_long}
use Rattle.given_top.proofs.checking.answer_check.Goals as goal

pub returns-then-text-gt-LONGEST_PLAN_CHECK : goal.returns-then-text-gt-LONGEST_PLAN_CHECK
returns-then-text-gt-LONGEST_PLAN_CHECK g c =
    let long = c.if-text-gt-LONGEST_PLAN_CHECK.true in
    record {
      checks = too_long c.args.text.now _ _ _ long c.answer_refused.ensures;
      told = long_tells c.args.text.now _ _ _ _ long c.words_note.ensures;
    }

-- so few links are read
pub answer_flawless-requires-clause-at_most : goal.answer_flawless-requires-clause-at_most
answer_flawless-requires-clause-at_most g c =
    let text = take c.parts-end.result.1 c.args.text.now in
    let found = c.in-Ok-Flawless.found in
    let is : judged_text text ≡ Flawless found = sym c.in-Ok-Flawless.ensures.exact ∙ c.in-Ok-Flawless.field-0-is in
    let told : IsOfFlawless text found.description found.given = subst (λ (j : Judged). IsTold text j) is (text_told text) in
    let few = few_links _ _ _ _ _ found.given told.text.plan in
    omega (arith, few)

pub returns-in-Ok-Answered : goal.returns-in-Ok-Answered
returns-in-Ok-Answered g c =
    let text = c.args.text.now in
    let is =
    ap (λ (n : ℕ). judged_text (take n text)) (sym c.parts-end.ensures.plan)
    ∙ (sym c.in-Ok-Answered.ensures.exact ∙ c.in-Ok-Answered.field-0-is) in
    let short = c.if-text-gt-LONGEST_PLAN_CHECK.false in
    let j = Answered c.in-Ok-Answered.answer in
    record {
      checks = judged text j _ _ _ short is (told c.in-Ok-Answered.answer _ _ _ c.write_noted.ensures.written);
      told = short_tells text j _ _ _ _ short is
          (part_tells text c.parts-end.result.1 c.in-Ok-Answered.answer (g.K.Sink.outflow c.args.sink.now)
          (g.K.Sink.outflow c.write_noted.new.sink) _ _ c.parts-end.ensures.plan c.write_noted.ensures.told);
    }

pub returns-in-Ok-Flawless : goal.returns-in-Ok-Flawless
returns-in-Ok-Flawless g c =
    let text = c.args.text.now in
    let is =
    ap (λ (n : ℕ). judged_text (take n text)) (sym c.parts-end.ensures.plan)
    ∙ (sym c.in-Ok-Flawless.ensures.exact ∙ c.in-Ok-Flawless.field-0-is) in
    let short = c.if-text-gt-LONGEST_PLAN_CHECK.false in
    let j = Flawless c.in-Ok-Flawless.found in
    record {
      checks = judged text j _ _ _ short is c.answer_flawless.ensures.checks;
      told = short_tells text j _ _ _ _ short is c.answer_flawless.ensures.told;
    }

pub returns-in-Err : goal.returns-in-Err
returns-in-Err g c = record { checks = no_memory (check_text c.args.text.now) _; told = tt }
