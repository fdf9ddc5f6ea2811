use Rattle.std.specs.List.{flat_map}
use Rattle.run_text.specs.Lines.{rest_line}
use Rattle.run_text.proofs.Taking.{Puts-exit, Puts-then}
use Rattle.portals_top.specs.Choosing.{step_lines}
use Rattle.portals_top.proofs.values.put_values.Goals as goal

pub returns-in_err-put_steps : goal.returns-in_err-put_steps
returns-in_err-put_steps g c =
    let lines = flat_map (step_lines c.args.choices.now c.args.world.now) c.args.choices.now.prints in
    Puts-exit _ _ _ _ lines rest_line _ c.from_residual.ensures.0 c.in_err-put_steps.ensures

pub returns : goal.returns
returns g c =
    let lines = flat_map (step_lines c.args.choices.now c.args.world.now) c.args.choices.now.prints in
    Puts-then _ _ _ _ _ _ lines rest_line _ c.in_ok-put_steps.ensures c.rest_line.ensures
