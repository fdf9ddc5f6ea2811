use Rattle.std.proofs.Common.{ap, ◌∙◌, sym, subst}
use Rattle.turn_table.specs.Hands.{Took}
use Rattle.rank_slots.specs.Chronicles.{chronicle}
use Rattle.rank_slots.specs.Names.{Plate, mark, plate}
use Rattle.rank_threads.specs.Fabrics.{FabricState, IsFabric}
use Rattle.rank_slots.specs.Sound.{IsSound}
use Rattle.rank_threads.specs.Turns.{Turned}
use Rattle.rank_threads.proofs.Idles.{idle-told}
use Rattle.rank_threads.proofs.Turns.{longer-step, may-end, with-none, with-some}
use Rattle.rank_threads.proofs.fabric.Fabric.step.Goals as goal

pub step-made-requires-clause-sound : goal.step-made-requires-clause-sound
step-made-requires-clause-sound g c = λ _ _. subst IsSound (sym c.take-slot.ensures.named.job_is) c.take-slot.ensures.sound

pub give-requires-clause-sound : goal.give-requires-clause-sound
give-requires-clause-sound g c = λ _ _. subst IsSound (sym (ap (λ (p : Plate). p.job) c.step-made.ensures.name
    ∙ c.take-slot.ensures.named.job_is)) c.take-slot.ensures.sound

pub give-requires-clause-taken : goal.give-requires-clause-taken
give-requires-clause-taken g c = λ _ _. let t = c.take-slot in let m = c.step-made in
    may-end t.result.slot c.args.rank c.args.hand.now.knows t.new.hand.knows t.result.value m.new.self t.ensures.slot t.ensures.took
    m.ensures.name
    (longer-step t.result.value m.new.self m.result m.ensures.some m.ensures.none) m.ensures.handles

pub returns-clause-some : goal.returns-clause-some
returns-clause-some g c = let t = c.take-slot in let m = c.step-made in let x = t.result.value in let y = m.new.self in
    let took = subst (λ k. Took chronicle plate c.args.hand.now.knows k x t.new.hand.knows) (sym t.ensures.slot) t.ensures.took in
    let one = subst (λ k. Turned c.args.hand.now.knows c.give.new.hand.knows k (mark x) (mark y)) t.ensures.slot
    (c.give.ensures.turned c.args.hand.now.knows x took) in
    with-some m.result (λ step made. (mark x, mark y, one, made)) m.ensures.some

pub returns-clause-none : goal.returns-clause-none
returns-clause-none g c = let t = c.take-slot in let m = c.step-made in let x = t.result.value in let y = m.new.self in
    let f = subst (λ (f : FabricState). IsFabric f.job f.turns.start f.wires) c.self.view_is c.self.invariant.fabric in
    let took = subst (λ k. Took chronicle plate c.args.hand.now.knows k x t.new.hand.knows) (sym t.ensures.slot) t.ensures.took in
    let one = subst (λ k. Turned c.args.hand.now.knows c.give.new.hand.knows k (mark x) (mark y)) t.ensures.slot
    (c.give.ensures.turned c.args.hand.now.knows x took) in
    with-none m.result (λ idled. (
      mark x,
      mark y,
      one,
      idle-told c.args.self.now.job t.ensures.sound c.args.self.now.wires f.lanes
          c.args.rank x t.ensures.named y t.ensures.kept idled,
    )) m.ensures.none
