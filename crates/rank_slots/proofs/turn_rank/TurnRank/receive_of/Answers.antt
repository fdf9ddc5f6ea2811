use Rattle.std.proofs.Common.{refl, rules}
use Rattle.atomic_table.proofs.Lists.{at_index}
use Rattle.rank_slots.proofs.Onwards.{onward-missed, onward-received}
use Rattle.rank_slots.proofs.turn_rank.TurnRank.receive_of.Goals as goal

pub receive-received-requires-clause-open : goal.receive-received-requires-clause-open
receive-received-requires-clause-open g c = λ _ _. c.if-not-may_take.ensures.open refl

pub returns-then-received : goal.returns-then-received
returns-then-received g c = let e = c.receive-received.ensures in let s = c.args.self.now in let at = c.at-at.result in
    let p = c.index-port.result.now in
    onward-received s c.receive-received.new.self at p.source p.lane p e.name
    (at_index s.ins.items at p (search rules) c.index-port.ensures) refl refl (e.some c.if-received.true) e.handles

pub returns : goal.returns
returns g c = let e = c.receive-received.ensures in
    onward-missed c.args.self.now c.receive-received.new.self c.at-at.result e.name (e.none c.if-received.false) e.handles
