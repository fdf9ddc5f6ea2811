use Rattle.std.proofs.Common.{◌<◌, ◌≤◌, ⊎_elim, ap, inr, arith}
use Rattle.std.proofs.lemmas.Bool.{cases_lt}
use Rattle.std.proofs.lemmas.Bool.{or_parts}
use Rattle.rank_threads.specs.Fabrics.{FabricState, HasSwept}
use Rattle.rank_threads.proofs.Turns.{none-after}
use Rattle.rank_threads.proofs.fabric.Fabric.sweep.Goals as goal

pub returns-clause-swept : goal.returns-clause-swept
unfolding HasSwept
returns-clause-swept g c = λ r h. ⊎_elim
    (λ (low : r < c.args.first). c.sweep_part-below.ensures.idle r (omega arith) low)
    (λ (high : c.args.first ≤ r). c.sweep_part-below.ensures.others r (inr high)
    (c.sweep_part-above.ensures.idle r high
    (let k = c.self.invariant.ranks_are in let e = ap (λ (f : FabricState). f.job.schedule.plan.ranks) c.self.view_is in
    omega (arith, h, k, e)))) (cases_lt r c.args.first)

pub returns-clause-none : goal.returns-clause-none
returns-clause-none g c = λ no. let h = or_parts _ _ no in
    none-after c.args.hand.now.knows c.sweep_part-above.new.hand.knows c.sweep_part-below.new.hand.knows
    (c.sweep_part-above.ensures.none h.0) (c.sweep_part-below.ensures.none h.1)
