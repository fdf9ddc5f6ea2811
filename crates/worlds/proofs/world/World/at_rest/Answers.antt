-- By the number of possible steps.
use Rattle.std.proofs.Common.{ap, arith, eqb-true, eq-eqb, length}
use Rattle.worlds.specs.World.{steps_in}
use Rattle.worlds.proofs.Ends.{all_values, complete, given_slots, none_in, rests, slots_given}
use Rattle.worlds.proofs.world.World.at_rest.Goals as goal

pub returns-clause-exact : goal.returns-clause-exact
returns-clause-exact c = λ slots agree. (
  λ e. (let z = eqb-true c.enabled.result 0 e in let n = c.enabled.ensures.number slots agree in none_in (steps_in c.args.self.now slots)
      (omega (arith, z, n))),
  λ e. (let n = c.enabled.ensures.number slots agree in let l = ap length e in eq-eqb c.enabled.result 0 (omega (arith, n, l))),
)

pub returns-clause-rest : goal.returns-clause-rest
returns-clause-rest c = λ e slots agree.
    let z = eqb-true c.enabled.result 0 e in
    let n = c.enabled.ensures.number slots agree in
    rests c.args.self.now slots c.enabled.ensures.kept agree (none_in (steps_in c.args.self.now slots) (omega (arith, z, n)))

pub returns-clause-complete : goal.returns-clause-complete
returns-clause-complete c = λ e slots agree r h.
    let z = eqb-true c.enabled.result 0 e in
    let n = c.enabled.ensures.number slots agree in
    complete c.args.self.now slots c.enabled.ensures.kept agree (none_in (steps_in c.args.self.now slots) (omega (arith, z, n))) r h

pub returns-clause-values : goal.returns-clause-values
returns-clause-values c = λ e.
    let z = eqb-true c.enabled.result 0 e in
    let n = c.enabled.ensures.number (given_slots c.args.self.now) (slots_given c.args.self.now c.enabled.ensures.kept) in
    all_values c.args.self.now c.enabled.ensures.kept
    (none_in (steps_in c.args.self.now (given_slots c.args.self.now)) (omega (arith, z, n)))
