-- By the number of enabled steps.
use Rattle.std.proofs.Common.{ap, arith, eqb-true, eq-eqb, length}
use Rattle.worlds.proofs.Ends.{none_in}
use Rattle.plan_choice.specs.World.{steps_in}
use Rattle.plan_choice.proofs.Standing.{decided, still}
use Rattle.plan_choice.proofs.world.ChoiceWorld.at_rest.Goals as goal

pub returns-clause-exact : goal.returns-clause-exact
returns-clause-exact c = (
  λ e. (let z = eqb-true c.enabled.result 0 e in let n = c.enabled.ensures.number in
      none_in (steps_in c.args.self.now) (omega (arith, z, n))),
  λ e. (let n = c.enabled.ensures.number in let l = ap length e in eq-eqb c.enabled.result 0 (omega (arith, n, l))),
)

pub returns-clause-rest : goal.returns-clause-rest
returns-clause-rest c = λ e.
    let z = eqb-true c.enabled.result 0 e in
    let n = c.enabled.ensures.number in
    still c.args.self.now (none_in (steps_in c.args.self.now) (omega (arith, z, n)))

pub returns-clause-decided : goal.returns-clause-decided
returns-clause-decided c = λ e.
    let z = eqb-true c.enabled.result 0 e in
    let n = c.enabled.ensures.number in
    decided c.args.self.now c.enabled.ensures.kept (none_in (steps_in c.args.self.now) (omega (arith, z, n)))
