use Rattle.std.proofs.Common.{ap, ◌∙◌, sym, subst}
use Rattle.turn_table.specs.Hands.{Took}
use Rattle.rank_slots.specs.Chronicles.{chronicle}
use Rattle.rank_slots.specs.Names.{Plate, mark, plate}
use Rattle.rank_threads.specs.Fabrics.{FabricState, IsFabric}
use Rattle.rank_slots.specs.Sound.{IsSound}
use Rattle.rank_threads.specs.Turns.{Turned}
use Rattle.rank_threads.proofs.Idles.{not-fired, of-history}
use Rattle.rank_slots.proofs.Singles.{fired-told, longer-fired}
use Rattle.rank_threads.proofs.Turns.{may-end}
use Rattle.rank_threads.proofs.fabric.Fabric.fire.Goals as goal

pub fire_one-number-requires-clause-sound : goal.fire_one-number-requires-clause-sound
fire_one-number-requires-clause-sound g c = λ _ _. subst IsSound (sym c.take-slot.ensures.named.job_is) c.take-slot.ensures.sound

pub give-requires-clause-sound : goal.give-requires-clause-sound
give-requires-clause-sound g c = λ _ _. subst IsSound (sym (ap (λ (p : Plate). p.job) c.fire_one-number.ensures.name
    ∙ c.take-slot.ensures.named.job_is)) c.take-slot.ensures.sound

pub give-requires-clause-taken : goal.give-requires-clause-taken
give-requires-clause-taken g c = λ _ _. let t = c.take-slot in let m = c.fire_one-number in
    may-end t.result.slot c.args.rank c.args.hand.now.knows t.new.hand.knows t.result.value m.new.self t.ensures.slot t.ensures.took
    m.ensures.name
    (longer-fired m.result t.result.value m.new.self m.ensures.some m.ensures.none) m.ensures.handles

pub returns-clause-fired : goal.returns-clause-fired
returns-clause-fired g c = let t = c.take-slot in let m = c.fire_one-number in let x = t.result.value in let y = m.new.self in
    let f = subst (λ (f : FabricState). IsFabric f.job f.turns.start f.wires) c.self.view_is c.self.invariant.fabric in let fabric =
    c.args.self.now in
    let took = subst (λ k. Took chronicle plate c.args.hand.now.knows k x t.new.hand.knows) (sym t.ensures.slot) t.ensures.took in
    let one = subst (λ k. Turned c.args.hand.now.knows c.give.new.hand.knows k (mark x) (mark y)) t.ensures.slot
    (c.give.ensures.turned c.args.hand.now.knows x took) in (
      mark x,
      mark y,
      one,
      of-history fabric.job t.ensures.sound fabric.wires f.lanes c.args.rank x t.ensures.named t.ensures.kept,
      fired-told m.result x y m.ensures.some m.ensures.none
          (λ h. not-fired fabric.job t.ensures.sound fabric.wires f.lanes c.args.rank x t.ensures.named y t.ensures.kept h.0 h.1),
    )
