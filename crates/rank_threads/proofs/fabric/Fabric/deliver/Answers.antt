use Rattle.std.proofs.Common.{ap, ◌∙◌, sym, subst}
use Rattle.turn_table.specs.Hands.{Took}
use Rattle.rank_slots.specs.Chronicles.{chronicle}
use Rattle.rank_slots.specs.Names.{Plate, mark, plate}
use Rattle.rank_threads.specs.Fabrics.{FabricState, IsFabric}
use Rattle.rank_slots.specs.Sound.{IsSound}
use Rattle.rank_slots.specs.Steps.{Delivered}
use Rattle.rank_threads.specs.Turns.{Turned}
use Rattle.rank_threads.proofs.Idles.{in-at, of-history, passed-at}
use Rattle.rank_slots.proofs.Singles.{longer-came}
use Rattle.rank_threads.proofs.Turns.{may-end}
use Rattle.rank_threads.proofs.fabric.Fabric.deliver.Goals as goal

pub deliver-moved-requires-clause-sound : goal.deliver-moved-requires-clause-sound
deliver-moved-requires-clause-sound g c = λ _ _. subst IsSound (sym c.take-slot.ensures.named.job_is) c.take-slot.ensures.sound

pub deliver-moved-requires-clause-end : goal.deliver-moved-requires-clause-end
deliver-moved-requires-clause-end g c = λ _ _. let t = c.take-slot in let fabric = c.args.self.now in
    let f = subst (λ (f : FabricState). IsFabric f.job f.turns.start f.wires) c.self.view_is c.self.invariant.fabric in
    in-at fabric.job t.ensures.sound fabric.wires f.lanes c.args.target t.result.value t.ensures.named c.args.source c.args.lane
    c.requires.lane

pub give-requires-clause-sound : goal.give-requires-clause-sound
give-requires-clause-sound g c = λ _ _. subst IsSound (sym (ap (λ (p : Plate). p.job) c.deliver-moved.ensures.name
    ∙ c.take-slot.ensures.named.job_is)) c.take-slot.ensures.sound

pub give-requires-clause-taken : goal.give-requires-clause-taken
give-requires-clause-taken g c = λ _ _. let t = c.take-slot in let m = c.deliver-moved in let x = t.result.value in let y = m.new.self in
    let fabric = c.args.self.now in
    let f = subst (λ (f : FabricState). IsFabric f.job f.turns.start f.wires) c.self.view_is c.self.invariant.fabric in
    let told : Delivered c.args.source c.args.lane m.result (mark x) (mark y) = record {
      yes = m.ensures.some;
      no = λ h. passed-at fabric.job t.ensures.sound fabric.wires f.lanes c.args.target x t.ensures.named y c.args.source c.args.lane
          (m.ensures.none h);
    } in
    may-end t.result.slot c.args.target c.args.hand.now.knows t.new.hand.knows x y t.ensures.slot t.ensures.took m.ensures.name
    (longer-came m.result c.args.source c.args.lane (mark x) (mark y) told) m.ensures.handles

pub returns-clause-delivered : goal.returns-clause-delivered
returns-clause-delivered g c = let t = c.take-slot in let m = c.deliver-moved in let x = t.result.value in let y = m.new.self in
    let fabric =
    c.args.self.now in
    let f = subst (λ (f : FabricState). IsFabric f.job f.turns.start f.wires) c.self.view_is c.self.invariant.fabric in
    let took = subst (λ k. Took chronicle plate c.args.hand.now.knows k x t.new.hand.knows) (sym t.ensures.slot) t.ensures.took in
    let one = subst (λ k. Turned c.args.hand.now.knows c.give.new.hand.knows k (mark x) (mark y)) t.ensures.slot
    (c.give.ensures.turned c.args.hand.now.knows x took) in (
      mark x,
      mark y,
      one,
      of-history fabric.job t.ensures.sound fabric.wires f.lanes c.args.target x t.ensures.named t.ensures.kept,
      record {
        yes = m.ensures.some;
        no = λ h. passed-at fabric.job t.ensures.sound fabric.wires f.lanes c.args.target x t.ensures.named y c.args.source c.args.lane
            (m.ensures.none h);
      },
    )
