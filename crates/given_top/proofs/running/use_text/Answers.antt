use Rattle.std.proofs.Common.{◌≡◌, ◌∙◌, subst, sym, arith}
use Rattle.given_verdicts.specs.declared.answer.Judged.{Judged}
use Rattle.given_verdicts.specs.declared.answer.Judged.TheVariants.{Answered, Flawless}
use Rattle.given_verdicts.specs.Answers.{judged_text}
use Rattle.verdict_laws.proofs.Holding.{IsOfFlawless, IsTold, text_told}
use Rattle.verdict_laws.proofs.Links.{few_links}
use Rattle.given_top.specs.Explained.{BesideUse}
use Rattle.given_top.proofs.Beside.{answered_tells, flawless_tells}
use Rattle.given_top.proofs.ReadTexts.{answered, no_memory}
use Rattle.given_top.proofs.running.use_text.Goals as goal

-- so few links are read
pub use_flawless-requires-clause-at_most : goal.use_flawless-requires-clause-at_most
use_flawless-requires-clause-at_most g c κs within =
    let text = c.args.text.now in
    let found = c.in-Ok-Flawless.found in
    let is : judged_text text ≡ Flawless found = sym c.in-Ok-Flawless.ensures.exact ∙ c.in-Ok-Flawless.field-0-is in
    let told : IsOfFlawless text found.description found.given = subst (λ (j : Judged). IsTold text j) is (text_told text) in
    let few = few_links _ _ _ _ _ found.given told.text.plan in
    omega (arith, few)

pub returns-in-Ok-Answered : goal.returns-in-Ok-Answered
returns-in-Ok-Answered g c =
    let answer = c.in-Ok-Answered.answer in
    let is : judged_text c.args.text.now ≡ Answered answer = sym c.in-Ok-Answered.ensures.exact ∙ c.in-Ok-Answered.field-0-is in
    record {
      ran = rw is (answered c.args.purpose answer _ _ _ _ c.write_noted.ensures.written c.without.ensures);
      told = rw c.without.ensures (answered_tells (BesideUse c.args.purpose) c.args.text.now answer _ _ is c.write_noted.ensures.told);
    }

pub returns-in-Ok-Flawless : goal.returns-in-Ok-Flawless
returns-in-Ok-Flawless g c =
    let found = c.in-Ok-Flawless.found in
    let is : judged_text c.args.text.now ≡ Flawless found = sym c.in-Ok-Flawless.ensures.exact ∙ c.in-Ok-Flawless.field-0-is in
    record {
      ran = rw is c.use_flawless.ensures.ran;
      told = flawless_tells (BesideUse c.args.purpose) c.args.text.now found _ _ is c.use_flawless.ensures.told;
    }

pub returns-in-Err : goal.returns-in-Err
returns-in-Err g c = record {
  ran = no_memory c.args.purpose _ _ _ c.without-in-Err.ensures;
  told = rw c.without-in-Err.ensures tt;
}
