use Rattle.std.proofs.Common.{◌≡◌, [], length}
use Rattle.rank_frames.specs.Going.{GoesOn}
use Rattle.rank_frames.proofs.going.fire_all.Given as goal

abbrev pub invariant-loop-number : goal.invariant-loop-number
invariant-loop-number g l = record {
  on : GoesOn l.fn.place l.place (g.K.Sink.outflow l.fn.sink) (g.K.Sink.outflow l.sink) [] [];
  due : l.place.due ≡ l.fn.place.due;
}

abbrev pub decreases-loop-number : goal.decreases-loop-number
decreases-loop-number g l = length l.place.node.nic.pending.waiting
