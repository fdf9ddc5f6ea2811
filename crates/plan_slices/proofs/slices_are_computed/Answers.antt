-- Cell by cell.
use Rattle.plan_slices.proofs.Values.{value-sliced}
use Rattle.plan_slices.proofs.slices_are_computed.Goals as goal

pub returns : goal.returns
returns c = λ p cuts j inputs inner sound fit cut slices d h.
    value-sliced p cuts j inputs inner (record { sound = sound; fit = fit; cuts = cut; slices = slices }) d h
