use Rattle.std.proofs.Common.{refl}
use Rattle.log_seats.proofs.Others.{no_table}
use Rattle.log_seats.proofs.answers.table_answer.Goals as goal

pub returns-in_default : goal.returns-in_default
returns-in_default c =
    no_table c.args.call.now c.args.seat.now _
    (record {
      not_PtAlloc = c.in_default.not-PtAlloc;
      not_PtFree = c.in_default.not-PtFree;
      not_CtAlloc = c.in_default.not-CtAlloc;
      not_CtFree = c.in_default.not-CtFree;
      not_CtSet = c.in_default.not-CtSet;
      not_CtInc = c.in_default.not-CtInc;
      not_CtCancel = c.in_default.not-CtCancel;
      not_EqAlloc = c.in_default.not-EqAlloc;
      not_EqFree = c.in_default.not-EqFree;
      not_EqGet = c.in_default.not-EqGet;
      not_MdBind = c.in_default.not-MdBind;
      not_MdRelease = c.in_default.not-MdRelease;
    })
    (rw (c.told.ensures, c.word.ensures) refl)
