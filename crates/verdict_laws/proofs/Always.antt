-- What an answer that the plan holds for all inputs tells of its results.
use Rattle.std.proofs.Common.{Bool, true, false, ◌≡◌, List, ℕ, length, refl, subst, sym}
use Rattle.coll_shape.specs.Meaning.{AreInputs}
use Rattle.coll_shape.specs.Outline.{Outline}
use Rattle.coll_lang.specs.Program.{Program}
use Rattle.plan_core.specs.Values.{Inputs}
use Rattle.plan_agreement.specs.Agreement.{AreMeantTo, IsMeant}
use Rattle.given_lines.specs.declared.given.Mark.{Mark}
use Rattle.given_lines.specs.Given.{Given}
use Rattle.mark_judge.specs.Due.{no_mark}
use Rattle.mark_judge.proofs.Tests.{get_or-In}
use Rattle.given_verdicts.specs.declared.answer.GivenAnswer.TheVariants.{Holds}
use Rattle.given_verdicts.specs.declared.answer.Judged.{Judged}
use Rattle.given_verdicts.specs.declared.answer.Judged.TheVariants.{Answered, Flawless}
use Rattle.given_verdicts.specs.Answers.{is_large, judged_text}
use Rattle.given_verdicts.specs.general.General.{IsAnsweredBy, IsGeneralAnswer}
use Rattle.verdict_laws.specs.Flawless.{AreNamedMeant}
use Rattle.verdict_laws.proofs.Holding.{IsOfFlawless, IsTold, text_told}

pub record IsAlwaysHeld (bytes : List ℕ) : Type 0 where
  pub description : Program
  pub given : Given
  pub told : IsOfFlawless bytes description given
  pub always : AreMeantTo given.plan description.shape given.marks (length given.marks)

judged_always : (bytes : List ℕ) (x : Judged) → IsTold bytes x → IsAnsweredBy x Holds → IsAlwaysHeld bytes
judged_always bytes (Answered found) told e = absurd (told (sym e))
judged_always bytes (Flawless t) told e = record {
  description = t.description;
  given = t.given;
  told = told;
  always = by_size (is_large t.given.plan) refl;
}
  where
    by_size : (b : Bool) → is_large t.given.plan ≡ b
        → AreMeantTo t.given.plan t.description.shape t.given.marks (length t.given.marks)
    by_size true q = let z = e.large q in cc
    by_size false q = e.small q

pub always_held : (bytes : List ℕ) → IsGeneralAnswer bytes Holds → IsAlwaysHeld bytes
always_held bytes e = judged_always bytes (judged_text bytes) (text_told bytes) e

-- where each result is always meant
pub always_named : (o : Outline) (g : Given) → AreMeantTo g.plan o g.marks (length g.marks) → (inputs : Inputs) → AreInputs o inputs
    → AreNamedMeant o g inputs
always_named o g always inputs given m named =
    let i = get_or-In m g.marks no_mark named in
    subst (λ (x : Mark). IsMeant g.plan o inputs x) i.2 (always i.0 i.1 inputs given)
