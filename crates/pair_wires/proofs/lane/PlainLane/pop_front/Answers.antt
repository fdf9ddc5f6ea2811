use Rattle.pair_wires.proofs.Lone.{last_is_first}
use Rattle.std.proofs.Common.{ap, arith}
use Rattle.pair_wires.proofs.lane.PlainLane.pop_front.Goals as goal

pub returns-then-len-eq1-clause-front : goal.returns-then-len-eq1-clause-front
returns-then-len-eq1-clause-front c =
    rw (← c.self.view_is) (last_is_first c.self.inside.ring.items c.pop_back.new.self.items c.pop_back.result
    (omega (arith, c.len.ensures.len, c.if-len-eq1.true)) c.pop_back.ensures.value (ap (λ b. b.items) c.pop_back.ensures.items))
