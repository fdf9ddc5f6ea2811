-- What the interface answered is written out.
use Rattle.std.proofs.Common.{ap, ◌∙◌, Some}
use Rattle.c_interface.specs.Calls.{AllocatesEq}
use Rattle.c_interface.specs.Forms.{one_handle}
use Rattle.c_interface.specs.Statuses.{fault_number}
use Rattle.c_interface.proofs.Opened.{called}
use Rattle.c_interface.proofs.queues.PtlEQAlloc.Goals as goal

pub returns-in-Some : goal.returns-in-Some
returns-in-Some c = called (AllocatesEq c.args.count) fault_number one_handle _ _ _ _ _ c.as_mut.result.now _ c.eq_alloc-made.result
    (ap Some c.as_mut.ensures.value ∙ c.in-Some.ensures.value) c.of.ensures c.eq_alloc-made.ensures
    c.guarded_handle_out.ensures.numbered c.guarded_handle_out.ensures.written
