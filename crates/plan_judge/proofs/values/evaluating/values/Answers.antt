use Rattle.std.proofs.Common.{◌∙◌, length}
use Rattle.plan_judge.proofs.values.CellByCell.{all_values}
use Rattle.plan_judge.proofs.values.evaluating.values.Goals as goal

pub links_by_target-requires : goal.links_by_target-requires
links_by_target-requires c = c.requires.given.sound.few_together

pub returns-in-Ok : goal.returns-in-Ok
returns-in-Ok c = c.in-Ok.ensures ∙ all_values c.args.plan.now c.args.inputs.now (length c.args.plan.now.cells)
