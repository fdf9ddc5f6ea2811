-- By the test of how many are ready.
use Rattle.std.proofs.Common.{length, refl, arith}
use Rattle.ni_model.specs.Ready.{ready_numbers}
use Rattle.guarded_ni.specs.declared.faults.Misuse.TheVariants.{NotReady}
use Rattle.guarded_ni.specs.Guarded.Tests.{Answered, Misused_by}
use Rattle.guarded_ni.proofs.Testing.{above, not_above}
use Rattle.guarded_ni.proofs.calls.ready_at.Goals as goal

pub returns-then-i-ready_count : goal.returns-then-i-ready_count
returns-then-i-ready_count c =
    Misused_by NotReady (not_above c.args.i (length (ready_numbers c.args.nic.now)) NotReady
    (let e = c.ready_count.ensures.value in let h = c.if-i-ready_count.true in omega (arith, e, h))) refl

pub returns : goal.returns
returns c =
    Answered c.ready_at.result (above c.args.i (length (ready_numbers c.args.nic.now)) NotReady
    (let e = c.ready_count.ensures.value in let h = c.if-i-ready_count.false in omega (arith, e, h))) c.ready_at.ensures.value
