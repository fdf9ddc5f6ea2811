use Rattle.ptl_types.specs.declared.handles.Handle.{Handle}
use Rattle.ni_model.specs.Calls as calls
use Rattle.log_answers.specs.declared.owed.Sort.TheVariants.{Queue}
use Rattle.log_seats.proofs.Ends.{frees_as}
use Rattle.log_seats.proofs.tables.eq_free.Goals as goal

pub returns : goal.returns
returns c =
    frees_as Queue (λ (h : Handle). calls.eq_free h c.args.seat.now.nic) c.handle-eq.result _ c.eq_free-answer.new.self
    c.eq_free-answer.result
    c.args.seat.now c.freed.new.seat c.freed.result c.handle-eq.ensures c.eq_free-answer.ensures.does c.freed.ensures
