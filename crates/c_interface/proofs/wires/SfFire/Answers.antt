-- Where there is room, what was fired is told.
use Rattle.std.proofs.Common.{ap, length, nat_lt, ◌∙◌}
use Rattle.ni_model.specs.State.{State}
use Rattle.c_interface.specs.Calls.{Fires, fired_told}
use Rattle.c_interface.specs.Statuses.{misuse_number}
use Rattle.c_interface.proofs.Opened.{roomy_called}
use Rattle.c_interface.proofs.wires.SfFire.Goals as goal

pub returns-else-is_short : goal.returns-else-is_short
returns-else-is_short c = roomy_called (length c.args.out.now) (Fires c.args.number) misuse_number fired_told _ _ _ _ _
    c.as_mut.result.now c.in-Some.nic.value c.fire-fired.new.nic c.fire-fired.result c.as_mut.ensures.value c.in-Some.ensures.value
    (c.if-is_short.ensures ∙ ap (λ (x : State). nat_lt (length c.args.out.now) x.limits.msg) c.as_ref.ensures) c.of-in-Some.ensures
    c.fire-fired.ensures c.fired_out.ensures.numbered c.fired_out.ensures.written
