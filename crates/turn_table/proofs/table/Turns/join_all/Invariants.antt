use Rattle.std.proofs.Common.{vec_len}
use Rattle.std.specs.Prelude.{All}
use Rattle.turn_table.specs.Hands.{IsFree, IsFreeSeat, Gathered}
use Rattle.turn_table.proofs.table.Turns.join_all.Given as goal

abbrev pub invariant-loop-other : goal.invariant-loop-other
invariant-loop-other g l = record {
  seat : IsFreeSeat l.self l.seat.table_id l.seat.me;
  others : All (λ h. IsFree l.self h) l.hands.items;
  all : Gathered g.T.Past.past g.T.Past.name l.fn.hands.items l.seat.me.0 l.hands.items;
}

abbrev pub decreases-loop-other : goal.decreases-loop-other
decreases-loop-other g l = vec_len l.hands
