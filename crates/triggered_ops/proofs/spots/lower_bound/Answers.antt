use Rattle.std.proofs.Common.{arith}
use Rattle.std.proofs.lemmas.List.{length-map}
use Rattle.triggered_ops.specs.declared.spots.Spot.{Spot}
use Rattle.triggered_ops.specs.Layout.{numbers_of}
use Rattle.triggered_ops.proofs.Found.{between-begin}
use Rattle.triggered_ops.proofs.spots.lower_bound.Goals as goal

pub loop-low-init : goal.loop-low-init
loop-low-init g c = between-begin (numbers_of c.args.spots.now) c.args.number _
    (let l = length-map c.args.spots.now (λ (s : Spot _). s.number) in omega (arith, l))
