use Rattle.std.proofs.Common.{take}
use Rattle.plan_terms.specs.terms.Folds.{AreMore}
use Rattle.plan_terms.proofs.terms.members.Members.add_each.Given as goal

abbrev pub invariant-loop-member : goal.invariant-loop-member
invariant-loop-member l = AreMore l.op l.ty l.initial.self l.self (take l.member-index l.members)
