use Rattle.schedule_compiler.specs.shapes.Footprint.{refusal}
use Rattle.plan_top.proofs.Plans.{plan_owed}
use Rattle.plan_top.proofs.Telling.{result_tells}
use Rattle.plan_top.proofs.drawing.draw_shape.Goals as goal

pub returns-in-Ok : goal.returns-in-Ok
returns-in-Ok g c = record {
  written = plan_owed c.args.shape.now (refusal c.args.shape.now) _ c.in-Ok.ensures.0 c.in-Ok.ensures.1 _ _ _ c.write_drawn.ensures;
  told = λ bytes. result_tells _ _ _ _ _ _ c.write_drawn.ensures;
}
