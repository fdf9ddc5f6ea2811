use Rattle.std.proofs.Common.{ap, ◌∙◌, sym, subst}
use Rattle.turn_table.specs.Hands.{Took}
use Rattle.rank_slots.specs.Chronicles.{chronicle}
use Rattle.rank_slots.specs.Names.{Plate, mark, plate}
use Rattle.rank_slots.specs.Sound.{IsSound}
use Rattle.rank_threads.specs.Turns.{Turned}
use Rattle.rank_slots.proofs.Onwards.{longer-begun}
use Rattle.rank_threads.proofs.Turns.{may-end}
use Rattle.rank_threads.proofs.fabric.Fabric.start.Goals as goal

pub start_once-answer-requires-clause-sound : goal.start_once-answer-requires-clause-sound
start_once-answer-requires-clause-sound g c = λ _ _. subst IsSound (sym c.take-slot.ensures.named.job_is) c.take-slot.ensures.sound

pub give-requires-clause-sound : goal.give-requires-clause-sound
give-requires-clause-sound g c = λ _ _. subst IsSound (sym (ap (λ (p : Plate). p.job) c.start_once-answer.ensures.name
    ∙ c.take-slot.ensures.named.job_is)) c.take-slot.ensures.sound

pub give-requires-clause-taken : goal.give-requires-clause-taken
give-requires-clause-taken g c = λ _ _. let t = c.take-slot in let m = c.start_once-answer in
    may-end t.result.slot c.args.rank c.args.hand.now.knows t.new.hand.knows t.result.value m.new.self t.ensures.slot t.ensures.took
    m.ensures.name
    (longer-begun t.result.value m.new.self m.result m.ensures.begun) m.ensures.handles

pub returns-clause-begun : goal.returns-clause-begun
returns-clause-begun g c = let t = c.take-slot in let m = c.start_once-answer in let x = t.result.value in let y = m.new.self in
    let took = subst (λ k. Took chronicle plate c.args.hand.now.knows k x t.new.hand.knows) (sym t.ensures.slot) t.ensures.took in
    let one = subst (λ k. Turned c.args.hand.now.knows c.give.new.hand.knows k (mark x) (mark y)) t.ensures.slot
    (c.give.ensures.turned c.args.hand.now.knows x took) in
    (mark x, mark y, one, m.ensures.begun)
