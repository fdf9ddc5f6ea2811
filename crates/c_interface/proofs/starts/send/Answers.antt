-- Where there is room, the message is handed out.
use Rattle.std.proofs.Common.{ap, length, nat_lt, ◌∙◌}
use Rattle.ni_model.specs.State.{State}
use Rattle.c_interface.specs.Calls.{Starts, action_of}
use Rattle.c_interface.specs.Messages.{handed}
use Rattle.c_interface.specs.Statuses.{fault_number}
use Rattle.c_interface.proofs.Opened.{roomy_called}
use Rattle.c_interface.proofs.starts.send.Goals as goal

pub returns-else-is_short : goal.returns-else-is_short
returns-else-is_short c = roomy_called (length c.args.out.now) (Starts (action_of c.args.action)) fault_number handed _ _ _ _ _
    c.as_mut.result.now c.in-Some.nic.value c.start-made.new.nic c.start-made.result c.as_mut.ensures.value c.in-Some.ensures.value
    (c.if-is_short.ensures ∙ ap (λ (x : State). nat_lt (length c.args.out.now) x.limits.msg) c.as_ref.ensures) c.of-in-Some.ensures
    c.start-made.ensures c.message_out.ensures.numbered c.message_out.ensures.written
