use Rattle.std.proofs.Common.{None, ap, ◌∙◌}
use Rattle.ptl_types.specs.declared.handles.Handle.{Handle}
use Rattle.ni_model.specs.Calls as calls
use Rattle.log_answers.specs.declared.owed.Owed.{Owed}
use Rattle.log_seats.specs.Answers.{ok}
use Rattle.log_seats.proofs.Ends.{tells_of}
use Rattle.log_seats.proofs.tables.ct_inc.Goals as goal

pub returns : goal.returns
returns c =
    tells_of ok c.ct_inc.new.self c.ct_inc.result c.args.seat.now c.told.result
    (λ (h : Handle). calls.ct_inc h c.args.by c.args.seat.now.nic)
    c.handle-ct.result _ c.handle-ct.ensures c.ct_inc.ensures.does
    (c.told.ensures ∙ ap (λ (o : Owed). record { owed = o; sent = None }) c.done.ensures)
