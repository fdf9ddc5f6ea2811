-- So few links are read.
use Rattle.std.proofs.Common.{◌≡◌, ◌∙◌, subst, sym, arith}
use Rattle.given_verdicts.specs.Answers.{judged_text}
use Rattle.given_verdicts.specs.declared.answer.Judged.{Judged}
use Rattle.given_verdicts.specs.declared.answer.Judged.TheVariants.{Flawless}
use Rattle.verdict_laws.proofs.Holding.{IsOfFlawless, IsTold, text_told}
use Rattle.verdict_laws.proofs.Links.{few_links}
use Rattle.rank_process.proofs.asking.given.Goals as goal

pub flawless-requires-clause-at_most : goal.flawless-requires-clause-at_most
flawless-requires-clause-at_most c =
    let text = c.args.text.now in
    let found = c.in-Ok-Flawless.found in
    let is : judged_text text ≡ Flawless found = sym c.in-Ok-Flawless.ensures.exact ∙ c.in-Ok-Flawless.field-0-is in
    let told : IsOfFlawless text found.description found.given = subst (λ (j : Judged). IsTold text j) is (text_told text) in
    let few = few_links _ _ _ _ _ found.given told.text.plan in
    omega (arith, few)
