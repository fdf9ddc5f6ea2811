use Rattle.rank_threads.proofs.Turns.{same-parts}
use Rattle.fabric_cases.proofs.alone.step_at.Goals as goal

pub returns-clause-parts : goal.returns-clause-parts
returns-clause-parts g c =
    same-parts c.args.fabric.now.job c.args.hand.now.knows c.step.new.hand.knows c.args.rank c.step.result c.step.ensures.some
    c.step.ensures.none
