use Rattle.std.proofs.Common.{◌≡◌, Bool, Option, Some, None, map, string_bytes}
use Rattle.log_top.specs.Answered.{asked}
use Rattle.log_top.specs.declared.top.Mode.{Mode}
use Rattle.log_top.specs.declared.top.Mode.TheVariants.{Judge, Fill}
use Rattle.log_top.proofs.Asked.{as_asked, usage_answers}
use Rattle.log_top.proofs.top.answered.Goals as goal

pub returns-in-Some-Judge-default : goal.returns-in-Some-Judge-default
returns-in-Some-Judge-default g c =
    as_asked (Some (Judge, c.in-Some-Judge-default.any_order)) _ _ _ _ _ c.judge.result
    (cc (c.in-Some-Judge-default.is, c.asked.ensures, c.in-Some-Judge-default.field-0-0-is)) c.judge.ensures

pub returns-in-Some-Fill-default : goal.returns-in-Some-Fill-default
returns-in-Some-Fill-default g c =
    as_asked (Some (Fill, c.in-Some-Fill-default.any_order)) _ _ _ _ _ c.fill.result
    (cc (c.in-Some-Fill-default.is, c.asked.ensures, c.in-Some-Fill-default.field-0-0-is)) c.fill.ensures

pub returns-in-None : goal.returns-in-None
returns-in-None g c =
    as_asked None _ _ _ _ _ c.alone-in-None.result (cc (c.in-None.is, c.asked.ensures))
    (usage_answers _ _ _ _ c.alone-in-None.result c.alone-in-None.ensures c.usage.ensures)
