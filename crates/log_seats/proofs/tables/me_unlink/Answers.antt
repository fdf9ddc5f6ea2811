use Rattle.ptl_types.specs.declared.handles.Handle.{Handle}
use Rattle.ni_model.specs.Calls as calls
use Rattle.log_answers.specs.declared.owed.Sort.TheVariants.{Entry}
use Rattle.log_seats.proofs.Ends.{frees_as}
use Rattle.log_seats.proofs.tables.me_unlink.Goals as goal

pub returns : goal.returns
returns c =
    frees_as Entry (λ (h : Handle). calls.me_unlink h c.args.seat.now.nic) c.handle-me.result _ c.me_unlink-answer.new.self
    c.me_unlink-answer.result
    c.args.seat.now c.freed.new.seat c.freed.result c.handle-me.ensures c.me_unlink-answer.ensures.does c.freed.ensures
