-- By `deliver_as`.
use Rattle.std.proofs.Common.{arith, not, length, get_or, ap, refl, sym, subst, ◌<◌, ◌∙◌}
use Rattle.std.proofs.Math.ListN.{set}
use Rattle.std.proofs.lemmas.List.{get_or_default}
use Rattle.ni_model.specs.State.{target}
use Rattle.plan_core.specs.Plan.{Plan}
use Rattle.plan_core.specs.Values.{Inputs}
use Rattle.rank_node.specs.of_plan.Ranks.{MayReceive}
use Rattle.cuts.specs.declared.orders.Step.TheVariants.{Deliver}
use Rattle.rank_node.specs.Node.{NodeState, received_node}
use Rattle.worlds.specs.parts.Keeps.{IsWorld}
use Rattle.worlds.specs.parts.Layout.{no_node}
use Rattle.worlds.specs.parts.Marks.{HasPlace, out_with}
use Rattle.worlds.proofs.parts.Counted.{firings_right, told_last}
use Rattle.worlds.proofs.parts.Delivers.{deliver_as, deliver_goes, deliver_room, deliver_some}
use Rattle.worlds.proofs.parts.Steps.{IsDone, wide_news}
use Rattle.worlds.proofs.parts.acts.deliver.Goals as goal

pub take-message-requires-clause-nonempty : goal.take-message-requires-clause-nonempty
take-message-requires-clause-nonempty c = deliver_some c.requires.world.plan c.requires.world.inputs c.args.nodes.now c.args.traffic.now
    c.requires.world.world c.args.s c.args.d c.args.lane c.requires.source c.requires.destination c.requires.may

pub receive-made-requires : goal.receive-made-requires
receive-made-requires c =
    let inside : c.args.d < length c.args.nodes.now = let size = c.requires.world.world.parts.size in let h = c.requires.destination in
    omega (arith, size, h) in
    let room : MayReceive (get_or c.args.nodes.now c.args.d c.index-nodes-d.result) c.args.s c.args.lane c.take-message.result =
    subst (λ (n : NodeState). MayReceive n c.args.s c.args.lane c.take-message.result)
    (sym (get_or_default c.args.nodes.now c.args.d c.index-nodes-d.result no_node inside))
    (deliver_room c.requires.world.plan c.requires.world.inputs c.args.nodes.now c.args.traffic.now
    c.requires.world.world c.args.s c.args.d c.args.lane c.requires.source c.requires.destination c.requires.may c.take-message.result
    c.take-message.ensures.front) in
    record { source = room.source_is; target = room.target; lane = room.kind; due = room.due; receipts = room.receipts; bytes = room.bytes }

pub send_out-requires-clause-goes : goal.send_out-requires-clause-goes
send_out-requires-clause-goes c =
    let inside : c.args.d < length c.args.nodes.now = let size = c.requires.world.world.parts.size in let h = c.requires.destination in
    omega (arith, size, h) in
    subst (λ ls. HasPlace c.args.traffic.now.setting.ranks c.args.d ls c.receive-made.result) (sym c.take-message.ensures.rest)
    (deliver_goes c.requires.world.plan c.requires.world.inputs c.args.nodes.now c.args.traffic.now c.requires.world.world
    c.args.s c.args.d c.args.lane c.requires.source c.requires.destination c.requires.may c.take-message.result
    c.take-message.ensures.front c.receive-made.result (c.receive-made.ensures.answer
    ∙ ap (λ (n : NodeState). (target n.nic c.take-message.result).delivered.answer)
    (get_or_default c.args.nodes.now c.args.d c.index-nodes-d.result no_node inside)))

pub delivered-requires-clause-closed : goal.delivered-requires-clause-closed
delivered-requires-clause-closed c =
    let inside : c.args.d < length c.args.nodes.now = let size = c.requires.world.world.parts.size in let h = c.requires.destination in
    omega (arith, size, h) in
    wide_news c.requires.world.plan c.requires.world.inputs c.args.traffic.now.setting.ranks c.args.nodes.now c.args.traffic.now.lanes
    c.args.traffic.now.setting.window c.args.traffic.now.setting.spare c.requires.world.world.parts c.args.d c.requires.destination
    c.receive-made.new.self
    (ap (λ (n : NodeState). n.closed) (c.receive-made.ensures.step ∙ ap (received_node c.args.s c.args.lane c.take-message.result)
    (get_or_default c.args.nodes.now c.args.d c.index-nodes-d.result no_node inside)))
    c.args.s c.requires.source

pub delivered-requires-clause-told : goal.delivered-requires-clause-told
delivered-requires-clause-told c =
    let inside : c.args.d < length c.args.nodes.now = let size = c.requires.world.world.parts.size in let h = c.requires.destination in
    omega (arith, size, h) in
    told_last c.args.traffic.now.setting.ranks c.args.nodes.now c.args.traffic.now.lanes c.args.traffic.now.starts
    c.args.traffic.now.deliveries c.args.traffic.now.firings c.args.traffic.now.setting.window c.requires.world.world.counted
    c.requires.world.world.parts.size c.args.d c.requires.destination
    c.receive-made.new.self (ap (λ (n : NodeState). n.closed) (c.receive-made.ensures.step
    ∙ ap (received_node c.args.s c.args.lane c.take-message.result)
    (get_or_default c.args.nodes.now c.args.d c.index-nodes-d.result no_node inside)))
    c.args.s c.args.d c.requires.source c.requires.destination ∙ ap not (sym c.has_window-had.ensures)

pub delivered-requires-clause-right : goal.delivered-requires-clause-right
delivered-requires-clause-right c =
    let inside : c.args.d < length c.args.nodes.now = let size = c.requires.world.world.parts.size in let h = c.requires.destination in
    omega (arith, size, h) in
    firings_right c.args.traffic.now.setting.ranks c.args.nodes.now c.args.traffic.now.lanes c.args.traffic.now.starts
    c.args.traffic.now.deliveries c.args.traffic.now.firings c.args.traffic.now.setting.window c.requires.world.world.counted
    c.requires.world.world.parts.size c.args.d c.requires.destination
    c.receive-made.new.self (ap (λ (n : NodeState). n.closed) (c.receive-made.ensures.step
    ∙ ap (received_node c.args.s c.args.lane c.take-message.result)
    (get_or_default c.args.nodes.now c.args.d c.index-nodes-d.result no_node inside)))
    c.args.s c.requires.source

pub returns : goal.returns
returns c =
    let done : (p : Plan) (inputs : Inputs) → IsWorld p inputs c.args.nodes.now c.args.traffic.now →
    IsDone p inputs (Deliver c.args.s c.args.d c.args.lane) c.args.nodes.now c.args.traffic.now c.delivered.new.nodes
    c.delivered.new.traffic =
    λ p inputs k.
    let inside : c.args.d < length c.args.nodes.now = let size = c.requires.world.world.parts.size in let h = c.requires.destination in
    omega (arith, size, h) in
    subst (IsDone p inputs (Deliver c.args.s c.args.d c.args.lane) c.args.nodes.now c.args.traffic.now c.delivered.new.nodes)
    (sym c.delivered.ensures.marks)
    (deliver_as p inputs c.args.nodes.now c.args.traffic.now k c.args.s c.args.d c.args.lane c.requires.source
    c.requires.destination c.requires.may c.take-message.result c.take-message.ensures.front c.receive-made.result
    (c.receive-made.ensures.answer ∙ ap (λ (n : NodeState). (target n.nic c.take-message.result).delivered.answer)
    (get_or_default c.args.nodes.now c.args.d c.index-nodes-d.result no_node inside))
    c.send_out.new.self (c.send_out.ensures.lanes ∙ ap (out_with c.args.traffic.now.setting.ranks c.args.d c.receive-made.result)
    c.take-message.ensures.rest)
    (set c.args.nodes.now c.args.d c.receive-made.new.self) (ap (set c.args.nodes.now c.args.d) (c.receive-made.ensures.step
    ∙ ap (received_node c.args.s c.args.lane c.take-message.result)
    (get_or_default c.args.nodes.now c.args.d c.index-nodes-d.result no_node inside)))
    c.delivered.new.nodes _ _ (record { gates = c.delivered.ensures.gates; of_deliveries = refl; of_firings = refl })) in
    record { step = λ p inputs k. (done p inputs k).step; world = λ p inputs k. (done p inputs k).world }
