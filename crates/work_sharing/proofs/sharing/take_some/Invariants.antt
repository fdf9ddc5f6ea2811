use Rattle.work_sharing.specs.Sharing.{AreGiven}
use Rattle.work_sharing.proofs.sharing.take_some.Given as goal

abbrev pub invariant-loop : goal.invariant-loop
invariant-loop g l = AreGiven g.F.Fn l.f l.count l.list.items
