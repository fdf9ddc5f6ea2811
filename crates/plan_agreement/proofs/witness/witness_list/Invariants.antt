use Rattle.plan_agreement.specs.Witness.{IsListOf}
use Rattle.plan_agreement.proofs.witness.witness_list.Given as goal

abbrev pub invariant-loop-k : goal.invariant-loop-k
invariant-loop-k l = IsListOf l.k l.bytes.items
