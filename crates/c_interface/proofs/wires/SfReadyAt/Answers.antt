-- What the interface answered is written out, and it is as before.
use Rattle.std.proofs.Common.{ap, ◌∙◌, Some, sym}
use Rattle.c_interface.specs.Calls.{ReadyAt}
use Rattle.c_interface.specs.Forms.{one_number}
use Rattle.c_interface.specs.Statuses.{misuse_number}
use Rattle.c_interface.proofs.Opened.{called}
use Rattle.c_interface.proofs.wires.SfReadyAt.Goals as goal

pub returns-in-Some : goal.returns-in-Some
returns-in-Some c = called (ReadyAt c.args.i) misuse_number one_number _ _ _ _ _ c.as_ref.result.now c.in-Some.nic.value
    c.ready_at-found.result (ap Some c.as_ref.ensures ∙ c.in-Some.ensures.value) c.of.ensures
    (sym c.as_ref.ensures, c.ready_at-found.ensures)
    c.tested_number_out.ensures.numbered c.tested_number_out.ensures.written
