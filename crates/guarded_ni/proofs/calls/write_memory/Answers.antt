-- By the test of the part.
use Rattle.std.proofs.Common.{◌+◌, ◌-◌, length, refl, arith, ap}
use Rattle.guarded_ni.specs.declared.faults.Misuse.TheVariants.{OutsideRegion}
use Rattle.guarded_ni.specs.Guarded.Tests.{Answered, Misused_by}
use Rattle.guarded_ni.proofs.Testing.{past, within}
use Rattle.guarded_ni.proofs.calls.write_memory.Goals.{then-start-size-via-then-start-size}
use Rattle.guarded_ni.proofs.calls.write_memory.Goals.{then-start-size-via-else-start-size+then-count-size}
use Rattle.guarded_ni.proofs.calls.write_memory.Goals as goal

pub returns-then-start-size : goal.returns-then-start-size
returns-then-start-size c =
    Misused_by OutsideRegion (past (length c.args.nic.now.memory) (c.args.start + length c.args.bytes.now) OutsideRegion
    (elim c.then-start-size.branch [
      | then-start-size-via-then-start-size w ↦ (let e = ap length c.memory.ensures.value in let a = w.if-start-size.true in
          omega (arith, e, a))
      | then-start-size-via-else-start-size+then-count-size w ↦
          (let e = ap length c.memory.ensures.value in let a = w.if-start-size.false in let b = w.if-count-size.true in
          omega (arith, e, a, b))
    ])) refl

pub returns : goal.returns
returns c =
    Answered tt (within (length c.args.nic.now.memory) (c.args.start + length c.args.bytes.now) OutsideRegion
    (let e = ap length c.memory.ensures.value in let a = c.if-start-size.false in let b = c.if-count-size.false in omega (arith, e, a, b)))
    c.write_memory.ensures.does
