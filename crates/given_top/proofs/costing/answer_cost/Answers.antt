use Rattle.std.proofs.Common.{◌≡◌, ◌∙◌, sym}
use Rattle.given_verdicts.specs.declared.answer.Judged.TheVariants.{Answered, Flawless}
use Rattle.given_verdicts.specs.Answers.{judged_text}
use Rattle.given_top.specs.Explained.{BesideTimes}
use Rattle.given_top.proofs.Beside.{answered_tells, flawless_tells}
use Rattle.given_top.proofs.Costs.{answered, judged, no_memory}
use Rattle.given_top.proofs.costing.answer_cost.Goals as goal

pub returns-in-Ok-Answered : goal.returns-in-Ok-Answered
returns-in-Ok-Answered g c =
    let n = c.args.numbers.now in
    let text = c.args.text.now in
    let answer = c.in-Ok-Answered.answer in
    let is : judged_text text ≡ Answered answer = sym c.in-Ok-Answered.ensures.exact ∙ c.in-Ok-Answered.field-0-is in
    record {
      costs = judged n text (Answered answer) _ _ _ is (answered n answer _ _ _ c.write_noted.ensures.written);
      told = answered_tells BesideTimes text answer _ _ is c.write_noted.ensures.told;
    }

pub returns-in-Ok-Flawless : goal.returns-in-Ok-Flawless
returns-in-Ok-Flawless g c =
    let text = c.args.text.now in
    let found = c.in-Ok-Flawless.found in
    let is : judged_text text ≡ Flawless found = sym c.in-Ok-Flawless.ensures.exact ∙ c.in-Ok-Flawless.field-0-is in
    record {
      costs = judged c.args.numbers.now text (Flawless found) _ _ _ is c.answer_flawless.ensures.costs;
      told = flawless_tells BesideTimes text found _ _ is c.answer_flawless.ensures.told;
    }

pub returns-in-Err : goal.returns-in-Err
returns-in-Err g c = record { costs = no_memory c.args.numbers.now (judged_text c.args.text.now) _; told = tt }
