use Rattle.std.proofs.Common.{◌≡◌}
use Rattle.plan_agreement.specs.Witness.{numbered_list}
use Rattle.plan_agreement.proofs.numbers.numbered_list.Given as goal

abbrev pub invariant-loop-k : goal.invariant-loop-k
invariant-loop-k l = l.bytes.items ≡ numbered_list l.unit l.i l.k
