use Rattle.std.proofs.Common.{◌∙◌, sym, subst}
use Rattle.cuts.specs.orders.Chosen.{Scene}
use Rattle.cuts.specs.orders.Reached.IsReached.{Begun}
use Rattle.cuts.specs.histories.System.{System}
use Rattle.worlds.specs.World.{ranks_in, scene_in}
use Rattle.job_runs.proofs.Reaching.{Here, travels-reached}
use Rattle.job_runs.proofs.Rests.{same-ranks}
use Rattle.job_runs.proofs.running.finished.Goals as goal

pub returns-clause-run : goal.returns-clause-run
returns-clause-run c =
    let later = c.run_to_rest.ensures.later in record {
      schedule = later.schedule ∙ c.requires.schedule;
      inputs = later.inputs ∙ c.requires.inputs;
      standing = c.recall_standing.ensures;
      own = later.spare ∙ c.requires.own;
      none = c.run_to_rest.ensures.none;
      rest = c.run_to_rest.ensures.rest;
      complete = c.run_to_rest.ensures.complete;
      values = c.run_to_rest.ensures.values;
    }

pub returns-clause-reached : goal.returns-clause-reached
returns-clause-reached c = λ first slots agree.
    let w = c.args.world in
    let v = c.run_to_rest.new.self in
    let k = ranks_in w slots in
    subst (λ (x : System). Here x (scene_in v)) (sym (same-ranks w v slots c.run_to_rest.ensures.later))
    (travels-reached k w.window (scene_in w) (scene_in v) (subst (λ (z : Scene). Here k z) (sym first) Begun)
    (c.run_to_rest.ensures.steps slots agree))
