use Rattle.std.proofs.Common.{◌∙◌, refl, subst, sym}
use Rattle.rand_pcg.specs.Lcg.{Lcg}
use Rattle.cuts.specs.histories.System.{System}
use Rattle.cuts.specs.orders.Chosen.{Scene}
use Rattle.cuts.specs.orders.Reached.IsReached.{Begun}
use Rattle.worlds.specs.Runs.{Running}
use Rattle.worlds.specs.World.{ranks_in, scene_in}
use Rattle.job_runs.specs.Runs.{after_words, chosen_number, word, words_left}
use Rattle.job_runs.proofs.Reaching.{Here, chosen-reached}
use Rattle.job_runs.proofs.Rests.{moved, same-ranks}
use Rattle.job_runs.proofs.running.run_chosen.Goals as goal

pub returns : goal.returns
returns c =
    let w = c.run_chosen.new.self in
    let later = c.run_chosen.ensures.later in
    let opened = c.in_ok-world.ensures in (
      record {
        schedule = later.schedule ∙ opened.schedule;
        inputs = later.inputs ∙ opened.inputs;
        standing = c.recall_standing.ensures;
        own = later.spare ∙ opened.spare;
        none = c.run_chosen.ensures.none;
        rest = c.run_chosen.ensures.rest;
        complete = c.run_chosen.ensures.complete;
        values = c.run_chosen.ensures.values;
      },
      (
        λ slots agree.
            let u = c.in_ok-world.world in
            let run = c.run_chosen.ensures.chosen slots agree in
            let k = ranks_in u slots in
            subst (λ (x : System). Here x (scene_in w)) (sym (same-ranks u w slots later))
            (subst (λ (q : Running Lcg). Here k q.scene) run.1
            (chosen-reached k u.window chosen_number words_left run.0 _ (subst (λ (z : Scene). Here k z) (sym opened.scene) Begun))),
        λ slots agree.
            let run = c.run_chosen.ensures.chosen slots agree in
            c.runs_by_words.ensures w slots (word c.args.seed) (after_words c.args.seed) chosen_number words_left run.0 (scene_in w) _
            c.recall_standing.ensures agree (later.window ∙ opened.window) (λ i m. refl) (λ i m. refl)
            (moved c.args.seed _ w _ _ slots run.0 later opened.scene c.of-words.ensures run.1) (c.run_chosen.ensures.none slots agree),
      ),
    )
