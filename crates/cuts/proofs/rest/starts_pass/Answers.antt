-- By the simulation.
use Rattle.std.proofs.Common.{length, subst, sym}
use Rattle.op_laws.proofs.Starts.{combined-starts}
use Rattle.cuts.specs.histories.Plans.{StartsPass}
use Rattle.cuts.proofs.start.Prepared.{prepared}
use Rattle.cuts.proofs.histories.FromCut.{simulation}
use Rattle.cuts.proofs.rest.starts_pass.Goals as goal

pub returns : goal.returns
returns c = λ plan inputs slots world sound fit cut r h.
    subst (λ v. StartsPass plan (slots r) r v (world r)) (sym (prepared plan inputs (slots r) r slots (length inputs) sound))
    (simulation combined-starts plan inputs sound fit slots world cut r h).accepted
