-- The parts one after the other.
use Rattle.std.proofs.Common.{◌∷◌, [], map}
use Rattle.plan_core.proofs.Drawing.{room-next, joined-one}
use Rattle.plan_steps.specs.Collectives.Gatherv.{concatenated, held_entry}
use Rattle.plan_steps.specs.StepContext.{places}
use Rattle.plan_steps.proofs.gatherv.GathervCollective.draw.Goals as goal

pub draw_concatenated-requires-clause-room : goal.draw_concatenated-requires-clause-room
draw_concatenated-requires-clause-room c =
    let s = c.args.site.now in
    room-next c.args.plan.now c.draw_row.new.plan (map (held_entry s) (places s)) (concatenated s c.args.self.now.root ∷ [])
    c.requires.room c.in_ok-draw_row.ensures

pub returns : goal.returns
returns c =
    let s = c.args.site.now in
    joined-one c.args.plan.now c.draw_row.new.plan c.draw_concatenated.new.plan (map (held_entry s) (places s))
    (concatenated s c.args.self.now.root) c.in_ok-draw_row.ensures c.in_ok-draw_concatenated.ensures
