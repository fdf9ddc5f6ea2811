-- What the interface answered is written out.
use Rattle.std.proofs.Common.{ap, ◌∙◌, Some, subst}
use Rattle.ptl_types.specs.declared.handles.Handle.{Handle}
use Rattle.c_interface.specs.Calls.{Posts}
use Rattle.c_interface.specs.Forms.{handle_of, one_number}
use Rattle.c_interface.specs.Statuses.{fault_number}
use Rattle.c_interface.proofs.Opened.{called}
use Rattle.c_interface.proofs.triggers.post.Goals as goal

pub returns-in-Some : goal.returns-in-Some
returns-in-Some c =
    let made = λ (h : Handle). Posts c.args.action h c.args.threshold in
    called (made (handle_of c.args.trig_ct)) fault_number one_number _ _ _ _ _
    c.as_mut.result.now c.triggered-made.new.nic c.triggered-made.result (ap Some c.as_mut.ensures.value ∙ c.in-Some.ensures.value)
    c.of.ensures
    (subst (λ (h : Handle). made h c.as_mut.result.now c.triggered-made.new.nic c.triggered-made.result) c.handle.ensures
    c.triggered-made.ensures)
    c.guarded_number_out.ensures.numbered c.guarded_number_out.ensures.written
