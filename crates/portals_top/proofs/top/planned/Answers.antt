use Rattle.portals_top.proofs.Answering.{plan-owed}
use Rattle.portals_top.proofs.Telling.{done_tells}
use Rattle.schedule_compiler.specs.shapes.Footprint.{refusal}
use Rattle.portals_top.specs.declared.words.Command.TheVariants.{Plan}
use Rattle.portals_top.proofs.top.planned.Goals as goal

pub returns-in-Ok : goal.returns-in-Ok
returns-in-Ok g c = record {
  written = λ inputs ran. plan-owed c.args.shape.now (refusal c.args.shape.now) _ c.in-Ok.ensures.0 c.in-Ok.ensures.1 inputs ran _ _ _
      c.plan.ensures;
  told = done_tells _ _ _ _ _ c.plan.ensures;
}

pub returns-in-Err : goal.returns-in-Err
returns-in-Err g c = record { written = c.refuse_plan.ensures.written Plan; told = c.refuse_plan.ensures.told }
