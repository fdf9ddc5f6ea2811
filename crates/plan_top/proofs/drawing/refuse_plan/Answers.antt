-- The refusal that is owed, or no memory.
use Rattle.std.proofs.Common.{sym, ◌∙◌}
use Rattle.schedule_compiler.specs.shapes.Footprint.{refusal}
use Rattle.plan_top.proofs.Plans.{excess_found, excess_owed, memory_owed}
use Rattle.plan_top.proofs.Steps.{at-step}
use Rattle.plan_top.proofs.Telling.{plan_tells}
use Rattle.plan_top.proofs.drawing.refuse_plan.Goals as goal

pub step_line-line-requires : goal.step_line-line-requires
step_line-line-requires g c =
    let found = excess_found c.args.shape.now c.args.fault c.in-Some.step c.in-Some.cause c.requires
    (sym c.excess_of.ensures ∙ c.in-Some.is) in
    at-step c.args.shape.now c.in-Some.step found.0 found.1

pub returns-in-Some : goal.returns-in-Some
returns-in-Some g c =
    let o = c.args.shape.now in
    let found = excess_found o c.args.fault c.in-Some.step c.in-Some.cause c.requires (sym c.excess_of.ensures ∙ c.in-Some.is) in
    record {
      written = excess_owed o c.in-Some.step found.0 (refusal o) found.1 _ _ _
          (rw (c.step_line-line.ensures, c.name.ensures, ← found.2) at c.refuse.ensures);
      told = λ bytes. plan_tells bytes o c.in-Some.step found.0 _ _ found.1
          (rw (c.step_line-line.ensures, ← found.2) at (c.cause_note.ensures bytes));
    }

pub returns-in-None : goal.returns-in-None
returns-in-None g c = record { written = memory_owed c.args.shape.now (refusal c.args.shape.now) _; told = λ bytes. tt }
