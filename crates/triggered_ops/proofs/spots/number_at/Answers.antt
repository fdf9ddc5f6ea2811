use Rattle.std.proofs.Common.{sym}
use Rattle.std.proofs.lemmas.List.{get_or-map}
use Rattle.triggered_ops.specs.declared.spots.Spot.{Spot}
use Rattle.triggered_ops.proofs.spots.number_at.Goals as goal

pub returns : goal.returns
returns g c =
    sym (get_or-map (λ (s : Spot _). s.number) c.args.spots.now c.args.place c.index-spots-place.result 0 c.requires)
