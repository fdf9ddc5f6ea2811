use Rattle.plan_agreement.specs.Evaluated.{CutAlike}
use Rattle.plan_agreement.proofs.cut_places.are_inputs_alike.Given as goal

abbrev pub invariant-loop-i : goal.invariant-loop-i
invariant-loop-i l = CutAlike l.one l.other l.ranks l.i
