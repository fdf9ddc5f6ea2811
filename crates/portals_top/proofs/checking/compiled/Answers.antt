use Rattle.std.proofs.Common.{None}
use Rattle.portals_top.specs.declared.words.Command.TheVariants.{Plan}
use Rattle.portals_top.proofs.Judging.{judged-compiled, judged-no_memory, judged-refused, judged-verdict}
use Rattle.portals_top.proofs.Telling.{tells_placed}
use Rattle.portals_top.proofs.checking.compiled.Goals as goal

pub returns-in-Ok-verdict_on : goal.returns-in-Ok-verdict_on
returns-in-Ok-verdict_on g c =
    record {
      judged = rw (← c.into_parts-shape.ensures.shape, ← c.into_parts-shape.ensures.inputs)
          (judged-compiled _ _ c.args.orders.now _ _ _ _ c.in-Ok.ensures.0
          (judged-verdict _ _ c.args.orders.now _ _ _ _ c.in-Ok-verdict_on.ensures c.answer_verdict.ensures.written));
      told = c.answer_verdict.ensures.told;
    }

pub returns-in-Ok : goal.returns-in-Ok
returns-in-Ok g c =
    let o = c.into_parts-shape.result.0 in
    record {
      judged = rw (← c.into_parts-shape.ensures.shape)
          (judged-compiled o c.args.d.inputs c.args.orders.now _ _ _ _ c.in-Ok.ensures.0
          (judged-no_memory o c.args.d.inputs c.args.orders.now _));
      told = tt;
    }

pub returns : goal.returns
returns g c =
    record {
      judged = rw (← c.into_parts-shape.ensures.shape, ← c.into_parts-shape.ensures.inputs)
          (judged-refused _ _ c.args.orders.now _ Plan c.args.d.inputs None _ _ _
          (c.refuse_plan.ensures.written Plan c.args.d.inputs None) c.refuse_plan.ensures.memory);
      told = tells_placed c.args.text.now c.refuse_plan.result _ _ _ c.refuse_plan.ensures.told;
    }
