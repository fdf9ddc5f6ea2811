use Rattle.std.proofs.Common.{◌∙◌}
use Rattle.portals_top.proofs.choosing.run_choices.Goals as goal

pub returns : goal.returns
returns c =
    let later = c.run_to_rest.ensures.later in
    let opened = c.in_ok-world.ensures in
    record {
      ranks = later.ranks ∙ opened.ranks;
      kinds = later.kinds ∙ opened.steps;
      standing = c.recall_standing.ensures;
      none = c.run_to_rest.ensures.none;
      decided = c.run_to_rest.ensures.decided;
    }
