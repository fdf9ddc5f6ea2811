-- By `inject_step_as` and `inject_world_as`.
use Rattle.std.proofs.Common.{not, ap, refl, subst, sym, ◌∙◌}
use Rattle.worlds.specs.parts.Keeps.{IsWorld}
use Rattle.worlds.specs.parts.Steps.{IsInjected}
use Rattle.worlds.proofs.parts.Injects.{inject_room, inject_step_as, inject_world_as}
use Rattle.worlds.proofs.parts.Steps.{wide_gates}
use Rattle.worlds.proofs.parts.acts.inject.Goals as goal

pub put_request-requires-clause-room : goal.put_request-requires-clause-room
put_request-requires-clause-room c = inject_room c.requires.world.plan c.requires.world.inputs c.args.nodes.now c.args.traffic.now
    c.requires.world.world c.args.s c.args.d c.args.message c.requires.left c.requires.from c.requires.destination c.requires.stray

pub joined-requires-clause-closed : goal.joined-requires-clause-closed
joined-requires-clause-closed c = wide_gates c.requires.world.plan c.requires.world.inputs c.args.traffic.now.setting.ranks
    c.args.nodes.now c.args.traffic.now.lanes c.args.traffic.now.setting.window c.args.traffic.now.setting.spare
    c.requires.world.world.parts c.args.s c.requires.from

pub joined-requires-clause-told : goal.joined-requires-clause-told
joined-requires-clause-told c = c.requires.world.world.counted.gates c.args.s c.args.d c.requires.from c.requires.destination
    ∙ ap not (sym c.has_window-had.ensures)

pub joined-requires-clause-right : goal.joined-requires-clause-right
joined-requires-clause-right c = c.requires.world.world.counted.of_firings c.args.s c.requires.from

pub returns-clause-step : goal.returns-clause-step
returns-clause-step c =
    subst (IsInjected c.args.s c.args.d c.args.message c.args.nodes.now c.args.traffic.now c.joined.new.nodes)
    (sym c.joined.ensures.marks)
    (inject_step_as c.requires.world.plan c.requires.world.inputs c.args.nodes.now c.args.traffic.now c.requires.world.world
    c.args.s c.args.d c.args.message c.requires.left c.requires.from c.requires.destination c.requires.stray c.put_request.new.lanes
    c.put_request.ensures.put c.joined.new.nodes _ _
    (record { gates = c.joined.ensures.gates; of_deliveries = refl; of_firings = refl }))

pub returns-clause-world : goal.returns-clause-world
returns-clause-world c = λ p inputs k used.
    subst (IsWorld p inputs c.joined.new.nodes) (sym c.joined.ensures.marks)
    (inject_world_as p inputs c.args.nodes.now c.args.traffic.now k c.args.s c.args.d c.args.message
    c.requires.left c.requires.from c.requires.destination c.requires.stray c.put_request.new.lanes c.put_request.ensures.put
    c.joined.new.nodes _ _ (record { gates = c.joined.ensures.gates; of_deliveries = refl; of_firings = refl })
    c.requires.source c.requires.target c.put_request.ensures.kept c.requires.short used)
