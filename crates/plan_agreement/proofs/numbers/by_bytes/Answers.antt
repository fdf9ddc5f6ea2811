-- They show it, or it is what is meant.
use Rattle.std.proofs.Common.{sym, subst}
use Rattle.coll_shape.specs.Meaning.{AreInputs, Lists}
use Rattle.plan_agreement.specs.Agreement.{IsMeant}
use Rattle.plan_agreement.proofs.Lists.{numbered_taken}
use Rattle.plan_agreement.proofs.numbers.by_bytes.Goals as goal

pub differs-requires-clause-inputs : goal.differs-requires-clause-inputs
differs-requires-clause-inputs c =
    subst (AreInputs c.args.shape.now) (sym c.in_ok-inputs.ensures) (numbered_taken c.args.shape.now c.args.unit)

pub returns-then-found : goal.returns-then-found
returns-then-found c = record {
  taken = subst (AreInputs c.args.shape.now) (sym c.in_ok-inputs.ensures) (numbered_taken c.args.shape.now c.args.unit);
  differs = c.in_ok-found.ensures.unlike c.if-found.true;
}

pub returns : goal.returns
returns c = λ there.
    subst (λ (v : Lists). IsMeant c.args.plan.now c.args.shape.now v c.args.mark) c.in_ok-inputs.ensures
    (c.in_ok-found.ensures.like c.if-found.false there)
