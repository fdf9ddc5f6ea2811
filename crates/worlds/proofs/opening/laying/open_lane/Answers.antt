-- The room is that of the lane.
use Rattle.std.proofs.Common.{[], ◌≡◌, ◌∙◌, IfOk, ap, arith, subst}
use Rattle.pair_wires.specs.Lanes.{plain}
use Rattle.worlds.specs.opening.Laying.{room_of}
use Rattle.worlds.proofs.opening.Rooms.{at_most-on_lane}
use Rattle.worlds.proofs.opening.laying.open_lane.Goals as goal

pub capacity-many-requires : goal.capacity-many-requires
capacity-many-requires c =
    let a = at_most-on_lane c.args.schedule.now.plan c.args.s c.args.d c.args.lane in
    let e = c.lane.ensures in
    let f = c.requires.at_most in
    omega (arith, a, e, f)

pub returns : goal.returns
returns c =
    subst (λ n. IfOk c.open.result (λ l. l ≡ plain [] n)) (c.capacity-many.ensures
    ∙ ap (λ m. room_of c.args.room m c.args.lane) c.lane.ensures)
    c.open.ensures
