use Rattle.std.proofs.lemmas.Result.{IfOk-weaker}
use Rattle.log_answers.specs.declared.owed.Sort.TheVariants.{Counter}
use Rattle.log_seats.specs.Answers.{Ends, TableAnswers, deed_of, left, posts}
use Rattle.log_seats.specs.Seats.{handle_of}
use Rattle.log_seats.proofs.Others.{by_triggered, no_entry}
use Rattle.log_seats.proofs.answers.entry_answer.Goals as goal

pub returns-in_default : goal.returns-in_default
returns-in_default c =
    IfOk-weaker c.table_answer.result (λ a. TableAnswers c.args.call.now c.args.seat.now (left c.table_answer.new.seat a)) _
    (λ a. no_entry c.args.call.now c.args.seat.now (left c.table_answer.new.seat a)
    (record {
      not_MeAppend = c.in_default.not-MeAppend;
      not_MeUnlink = c.in_default.not-MeUnlink;
      not_MeSearch = c.in_default.not-MeSearch;
      not_Start = c.in_default.not-Start;
      not_Triggered = c.in_default.not-Triggered;
      not_Fire = c.in_default.not-Fire;
      not_Write = c.in_default.not-Write;
    }))
    c.table_answer.ensures

pub returns-in-Triggered : goal.returns-in-Triggered
returns-in-Triggered c =
    let s = c.args.seat.now in
    let t = c.in-Triggered in
    IfOk-weaker c.triggered.result
    (λ a. Ends c.triggered.new.seat a (posts t.name.text (deed_of s t.deed) (handle_of Counter s t.ct) t.threshold s)) _
    (λ a e. by_triggered c.args.call.now t.name t.ct t.threshold t.deed s (left c.triggered.new.seat a) t.is e)
    c.triggered.ensures
