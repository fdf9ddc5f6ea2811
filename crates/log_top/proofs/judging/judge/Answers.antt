use Rattle.log_top.proofs.LinesJudged.{judged_answers, lacking_answers, unread_answers}
use Rattle.log_top.proofs.judging.judge.Goals as goal

pub returns-in-Ok : goal.returns-in-Ok
returns-in-Ok g c =
    judged_answers _ _ _ _ _ _ _ _ c.in-Ok.ensures.verdict c.write_verdict.ensures c.flaw_of.ensures

pub returns-in-Err-Failed : goal.returns-in-Err-Failed
returns-in-Err-Failed g c =
    unread_answers _ _ _ _ c.alone.result c.alone.ensures (c.in-Err-Failed.ensures.failed c.in-Err-Failed.field-0-is)

pub returns-in-Err-NoMemory : goal.returns-in-Err-NoMemory
returns-in-Err-NoMemory g c = lacking_answers _ _ _ _ c.alone-in-Err-NoMemory.result c.alone-in-Err-NoMemory.ensures
