use Rattle.ptl_types.specs.declared.handles.Handle.{Handle}
use Rattle.ni_model.specs.Calls as calls
use Rattle.log_answers.specs.declared.owed.Sort.TheVariants.{Counter}
use Rattle.log_seats.proofs.Ends.{frees_as}
use Rattle.log_seats.proofs.tables.ct_free.Goals as goal

pub returns : goal.returns
returns c =
    frees_as Counter (λ (h : Handle). calls.ct_free h c.args.seat.now.nic) c.handle-ct.result _ c.ct_free-answer.new.self
    c.ct_free-answer.result
    c.args.seat.now c.freed.new.seat c.freed.result c.handle-ct.ensures c.ct_free-answer.ensures.does c.freed.ensures
