-- By `fire_as`.
use Rattle.std.proofs.Common.{true, arith, length, ap, refl, sym, subst, ◌<◌, ◌≡◌, ◌∙◌}
use Rattle.std.proofs.Math.ListN.{set}
use Rattle.std.proofs.lemmas.List.{get_or_default}
use Rattle.ni_model.specs.Ready.{fired, is_ready}
use Rattle.plan_core.specs.Plan.{Plan}
use Rattle.plan_core.specs.Values.{Inputs}
use Rattle.cuts.specs.declared.orders.Step.TheVariants.{Fire}
use Rattle.rank_node.specs.Node.{NodeState, fired_node}
use Rattle.worlds.specs.parts.Keeps.{IsWorld}
use Rattle.worlds.specs.parts.Layout.{no_node}
use Rattle.worlds.proofs.parts.Steps.{IsDone, fire_as, fire_goes, fire_ready, wide_news}
use Rattle.worlds.proofs.parts.acts.fire.Goals as goal

pub fire-made-requires : goal.fire-made-requires
fire-made-requires c =
    let inside : c.args.r < length c.args.nodes.now = let size = c.requires.world.world.parts.size in let h = c.requires.rank in
    omega (arith, size, h) in
    subst (λ (n : NodeState). is_ready n.nic c.args.number ≡ true)
    (sym (get_or_default c.args.nodes.now c.args.r c.index-nodes-r.result no_node inside))
    (fire_ready c.requires.world.plan c.requires.world.inputs c.args.nodes.now c.args.traffic.now c.requires.world.world
    c.args.r c.requires.rank c.args.number c.requires.may)

pub send_out-d-requires-clause-goes : goal.send_out-d-requires-clause-goes
send_out-d-requires-clause-goes c =
    let inside : c.args.r < length c.args.nodes.now = let size = c.requires.world.world.parts.size in let h = c.requires.rank in
    omega (arith, size, h) in
    fire_goes c.requires.world.plan c.requires.world.inputs c.args.nodes.now c.args.traffic.now c.requires.world.world
    c.args.r c.requires.rank c.args.number c.requires.may c.fire-made.result
    (c.fire-made.ensures.message ∙ ap (λ (n : NodeState). (fired n.nic c.args.number).message)
    (get_or_default c.args.nodes.now c.args.r c.index-nodes-r.result no_node inside))

pub fired-requires-clause-closed : goal.fired-requires-clause-closed
fired-requires-clause-closed c =
    let inside : c.args.r < length c.args.nodes.now = let size = c.requires.world.world.parts.size in let h = c.requires.rank in
    omega (arith, size, h) in
    wide_news c.requires.world.plan c.requires.world.inputs c.args.traffic.now.setting.ranks c.args.nodes.now c.args.traffic.now.lanes
    c.args.traffic.now.setting.window c.args.traffic.now.setting.spare c.requires.world.world.parts c.args.r c.requires.rank
    c.fire-made.new.self (ap (λ (n : NodeState). n.closed) (c.fire-made.ensures.step
    ∙ ap (fired_node c.args.number) (get_or_default c.args.nodes.now c.args.r c.index-nodes-r.result no_node inside)))
    c.args.r c.requires.rank

pub returns : goal.returns
returns c =
    let done : (p : Plan) (inputs : Inputs) → IsWorld p inputs c.args.nodes.now c.args.traffic.now →
    IsDone p inputs (Fire c.args.r c.args.number) c.args.nodes.now c.args.traffic.now c.fired.new.nodes c.fired.new.traffic =
    λ p inputs k.
    let inside : c.args.r < length c.args.nodes.now = let size = c.requires.world.world.parts.size in let h = c.requires.rank in
    omega (arith, size, h) in
    subst (IsDone p inputs (Fire c.args.r c.args.number) c.args.nodes.now c.args.traffic.now c.fired.new.nodes)
    (sym c.fired.ensures.marks)
    (fire_as p inputs c.args.nodes.now c.args.traffic.now k c.args.r c.requires.rank c.args.number c.requires.may c.fire-made.result
    (c.fire-made.ensures.message ∙ ap (λ (n : NodeState). (fired n.nic c.args.number).message)
    (get_or_default c.args.nodes.now c.args.r c.index-nodes-r.result no_node inside))
    c.is_some-sends.result c.is_some-sends.ensures
    c.send_out-d.result c.send_out-d.ensures.for_whom c.send_out-d.new.self c.send_out-d.ensures.lanes
    (set c.args.nodes.now c.args.r c.fire-made.new.self) (ap (set c.args.nodes.now c.args.r) (c.fire-made.ensures.step
    ∙ ap (fired_node c.args.number) (get_or_default c.args.nodes.now c.args.r c.index-nodes-r.result no_node inside)))
    c.fired.new.nodes _ _ (record { gates = c.fired.ensures.gates; of_deliveries = refl; of_firings = refl })) in
    record { step = λ p inputs k. (done p inputs k).step; world = λ p inputs k. (done p inputs k).world }
