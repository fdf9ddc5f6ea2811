-- By `Final`.
use Rattle.std.proofs.Common.{arith, refl}
use Rattle.schedule_compiler.proofs.shapes.Final.{barrier-cells, barrier-rounds}
use Rattle.schedule_compiler.proofs.shapes.laws.barrier_rounds.Goals as goal

pub returns-clause-rounds : goal.returns-clause-rounds
returns-clause-rounds c = λ o a k h is. barrier-rounds o a k h is

pub returns-clause-cells : goal.returns-clause-cells
returns-clause-cells c = λ o a k h is j i t l. barrier-cells o a k h is j i t l

pub returns-clause-entries : goal.returns-clause-entries
returns-clause-entries c = λ o k i. omega arith

pub returns-clause-exits : goal.returns-clause-exits
returns-clause-exits c = λ o k i. refl
