-- By the test whether it is ready.
use Rattle.std.proofs.Common.{refl, sym}
use Rattle.ni_model.specs.Ready.{is_ready}
use Rattle.guarded_ni.specs.declared.faults.Misuse.TheVariants.{NotReady}
use Rattle.guarded_ni.specs.Guarded.Tests.{Answered, Misused_by}
use Rattle.guarded_ni.proofs.Testing.{broken, whole}
use Rattle.guarded_ni.proofs.calls.fire.Goals as goal

pub returns-then-not-is_ready : goal.returns-then-not-is_ready
returns-then-not-is_ready c = Misused_by NotReady (broken (is_ready c.args.nic.now c.args.number) NotReady
    (sym c.if-not-is_ready.ensures.value)) refl

pub returns : goal.returns
returns c = Answered c.fire.result (whole (is_ready c.args.nic.now c.args.number) NotReady (sym c.if-not-is_ready.ensures.value))
    c.fire.ensures.does
