-- One unit more in each turn.
use Rattle.std.proofs.Common.{◌<◌, ◌∙◌, ap, arith, sym, subst}
use Rattle.std.proofs.lemmas.List.Elements.{All-get_or}
use Rattle.coll_shape.specs.Meaning.{AreInputs}
use Rattle.plan_agreement.proofs.Lists.{all_taken, numbered_taken, one_more_of}
use Rattle.given_verdicts.specs.Answers.{wrong_for}
use Rattle.given_verdicts.specs.general.General.{IsRightByNumber}
use Rattle.given_verdicts.proofs.general.bare.wrong_by_numbers.Goals as goal

pub numbered-requires : goal.numbered-requires
numbered-requires c = All-get_or (λ unit. 0 < unit) c.args.units.now c.loop-unit.unit-index 0 c.loop-unit-test.true c.requires.units

pub wrong_for-requires-clause-inputs : goal.wrong_for-requires-clause-inputs
wrong_for-requires-clause-inputs c =
    let o = c.args.text.now.description.shape in
    subst (AreInputs o) (sym (rw c.shape.ensures.shape at c.in_ok-inputs.ensures)) (numbered_taken o _)

pub loop-unit-init : goal.loop-unit-init
loop-unit-init c = λ k d l. absurd (omega (arith, l))

pub loop-unit-preserved : goal.loop-unit-preserved
loop-unit-preserved c =
    let t = c.args.text.now in
    one_more_of (IsRightByNumber t) c.args.units.now c.loop-unit.unit-index 0 c.loop-unit-test.true c.loop-unit.invariant
    (ap (wrong_for t) (sym (rw c.shape.ensures.shape at c.in_ok-inputs.ensures)) ∙ sym c.in_ok-wrong.ensures ∙ c.in-None.is)

pub returns-in-Some : goal.returns-in-Some
returns-in-Some c =
    let o = c.args.text.now.description.shape in (
      c.in_ok-inputs.inputs,
      record {
        taken = subst (AreInputs o) (sym (rw c.shape.ensures.shape at c.in_ok-inputs.ensures)) (numbered_taken o _);
        wrong = sym c.in_ok-wrong.ensures ∙ c.in-Some.is;
      },
    )

pub returns : goal.returns
returns c =
    all_taken (IsRightByNumber c.args.text.now) c.args.units.now c.loop-unit.unit-index c.loop-unit-test.false c.loop-unit.invariant
