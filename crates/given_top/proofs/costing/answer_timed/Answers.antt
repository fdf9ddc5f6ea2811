use Rattle.std.proofs.Common.{subst, []}
use Rattle.given_verdicts.specs.declared.answer.Judged.TheVariants.{Flawless}
use Rattle.plan_words.specs.Costs.{CostOf}
use Rattle.plan_top.specs.Explained.{TellsOf}
use Rattle.plan_top.proofs.Telling.{result_tells}
use Rattle.given_top.proofs.Costs.{no_memory, told_costs}
use Rattle.given_top.proofs.costing.answer_timed.Goals as goal

pub returns-in-Ok : goal.returns-in-Ok
returns-in-Ok g c =
    let n = c.args.numbers.now in
    let all : CostOf =
    record { times = c.args.times.now; ranks = c.in-Ok.ranks.items; path = c.in-Ok.path } in
    let written = rw (c.plan-plan.ensures, c.as_slice.ensures.value) at c.write_found.ensures in
    record {
      costs = told_costs n c.args.found.now all _ _ _ (rw c.plan-plan.ensures at c.in-Ok.ensures) written;
      answered = λ is. subst (λ s. TellsOf (λ text. ⊥) s []) is (result_tells _ _ _ _ _ [] written);
    }

pub returns-in-Err : goal.returns-in-Err
returns-in-Err g c = record { costs = no_memory c.args.numbers.now (Flawless c.args.found.now) _; answered = λ is. absurd (cc) }
