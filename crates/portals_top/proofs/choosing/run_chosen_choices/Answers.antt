use Rattle.std.proofs.Common.{◌≡◌, ◌∙◌, refl, subst, sym}
use Rattle.ptl_types.specs.Handles.{top}
use Rattle.rand_pcg.specs.Lcg.{Lcg}
use Rattle.cuts.specs.histories.System.{System}
use Rattle.cuts.specs.orders.Chosen.{first_scene}
use Rattle.worlds.specs.Runs.{Running, chosen_run}
use Rattle.plan_choice.specs.World.{ranks_in, scene_in}
use Rattle.job_runs.specs.Runs.{after_words, chosen_number, generator, word, words_left}
use Rattle.job_runs.proofs.Rests.{seeded}
use Rattle.portals_top.proofs.choosing.run_chosen_choices.Goals as goal

pub returns : goal.returns
returns c =
    let u = c.in_ok-world.world in
    let w = c.run_chosen.new.self in
    let seed = c.args.seed in
    let later = c.run_chosen.ensures.later in
    let opened = c.in_ok-world.ensures in
    let run = c.run_chosen.ensures.chosen in
    let last : Running Lcg = record { scene = scene_in w; chooser = c.run_chosen.new.chooser } in (
      record {
        ranks = later.ranks ∙ opened.ranks;
        kinds = later.kinds ∙ opened.steps;
        standing = c.recall_standing.ensures;
        none = c.run_chosen.ensures.none;
        decided = c.run_chosen.ensures.decided;
      },
      c.choices_by_words.ensures w (word seed) (after_words seed) chosen_number words_left run.0 (scene_in w) c.run_chosen.new.chooser
          c.recall_standing.ensures (λ i m. refl) (λ i m. refl)
          (subst
          (λ (k : System). chosen_run k top chosen_number words_left run.0 (record { scene = first_scene; chooser = generator seed })
          ≡ last)
          (sym later.system)
          (seeded seed (ranks_in u) top run.0 (scene_in u) c.of-words.result last opened.first c.of-words.ensures run.1))
          c.run_chosen.ensures.none,
    )
