use Rattle.ptl_types.specs.declared.handles.Handle.{Handle}
use Rattle.ni_model.specs.Calls as calls
use Rattle.log_answers.specs.declared.owed.Sort.TheVariants.{Descriptor}
use Rattle.log_seats.proofs.Ends.{frees_as}
use Rattle.log_seats.proofs.tables.md_release.Goals as goal

pub returns : goal.returns
returns c =
    frees_as Descriptor (λ (h : Handle). calls.md_release h c.args.seat.now.nic) c.handle-md.result _ c.md_release-answer.new.self
    c.md_release-answer.result
    c.args.seat.now c.freed.new.seat c.freed.result c.handle-md.ensures c.md_release-answer.ensures.does c.freed.ensures
