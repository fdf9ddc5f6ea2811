use Rattle.std.proofs.lemmas.Result.{IfOk-weaker}
use Rattle.log_seats.specs.Answers.{EntryAnswers, left}
use Rattle.log_seats.proofs.Others.{no_asking}
use Rattle.log_seats.proofs.answers.answer.Goals as goal

pub returns-in_default : goal.returns-in_default
returns-in_default c =
    IfOk-weaker c.entry_answer.result (λ a. EntryAnswers c.args.call.now c.args.seat.now (left c.entry_answer.new.seat a)) _
    (λ a. no_asking c.args.call.now c.args.seat.now (left c.entry_answer.new.seat a)
    (record {
      not_CtGet = c.in_default.not-CtGet;
      not_Awaits = c.in_default.not-Awaits;
      not_AwaitsAny = c.in_default.not-AwaitsAny;
      not_Headers = c.in_default.not-Headers;
      not_Header = c.in_default.not-Header;
      not_IsReady = c.in_default.not-IsReady;
      not_Ready = c.in_default.not-Ready;
      not_ReadyCount = c.in_default.not-ReadyCount;
      not_ReadyAt = c.in_default.not-ReadyAt;
      not_ReadyCountTo = c.in_default.not-ReadyCountTo;
      not_LaneOf = c.in_default.not-LaneOf;
      not_Read = c.in_default.not-Read;
      not_Pending = c.in_default.not-Pending;
      not_Drops = c.in_default.not-Drops;
      not_Violations = c.in_default.not-Violations;
    }))
    c.entry_answer.ensures
