use Rattle.std.proofs.Common.{sym, subst}
use Rattle.turn_table.specs.Hands.{Took}
use Rattle.rank_slots.specs.Chronicles.{chronicle}
use Rattle.rank_slots.specs.Names.{mark, plate}
use Rattle.rank_slots.proofs.Onwards.{longer-stepped}
use Rattle.rank_threads.specs.Turns.{Turned}
use Rattle.rank_threads.proofs.Turns.{followed, followed-busy, may-end}
use Rattle.rank_threads.proofs.fabric.Fabric.follow.Goals as goal

pub returns-in_default-clause-followed : goal.returns-in_default-clause-followed
returns-in_default-clause-followed g c = followed-busy c.args.hand.now.knows c.try_take.new.hand.knows c.args.rank c.in_default.ensures.busy

pub give-requires-clause-taken : goal.give-requires-clause-taken
give-requires-clause-taken g c = λ _ _. let t = c.in-Some.ensures.some in let m = c.follow_hints-made in let x = c.in-Some.field-0 in
    may-end x.slot c.args.rank c.args.hand.now.knows c.try_take.new.hand.knows x.value m.new.self t.slot t.took m.ensures.0
    (longer-stepped m.result x.value m.new.self m.ensures.1) m.ensures.2

pub returns-clause-parts : goal.returns-clause-parts
returns-clause-parts g c = let t = c.in-Some.ensures.some in let x = c.in-Some.field-0 in
    let took = subst (λ k. Took chronicle plate c.args.hand.now.knows k x.value c.try_take.new.hand.knows) (sym t.slot) t.took in
    (c.give.ensures.turned c.args.hand.now.knows x.value took).parts

pub returns-clause-followed : goal.returns-clause-followed
returns-clause-followed g c = let t = c.in-Some.ensures.some in let x = c.in-Some.field-0 in let m = c.follow_hints-made in
    let took = subst (λ k. Took chronicle plate c.args.hand.now.knows k x.value c.try_take.new.hand.knows) (sym t.slot) t.took in
    let one = subst (λ k. Turned c.args.hand.now.knows c.give.new.hand.knows k (mark x.value) (mark m.new.self)) t.slot
    (c.give.ensures.turned c.args.hand.now.knows x.value took) in
    followed m.result c.args.hand.now.knows c.give.new.hand.knows c.args.rank x.value m.new.self one m.ensures.1
