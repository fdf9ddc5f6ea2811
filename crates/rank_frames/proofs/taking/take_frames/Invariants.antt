use Rattle.rank_frames.specs.Going.{GoesBy}
use Rattle.rank_frames.specs.Place.{frames_left}
use Rattle.rank_frames.proofs.taking.take_frames.Given as goal

abbrev pub invariant-loop-alloc : goal.invariant-loop-alloc
invariant-loop-alloc g l = GoesBy l.fn.place l.place (g.S.Source.inflow l.fn.source) (g.S.Source.inflow l.source)
    (g.K.Sink.outflow l.fn.sink) (g.K.Sink.outflow l.sink)

abbrev pub decreases-loop-alloc : goal.decreases-loop-alloc
decreases-loop-alloc g l = frames_left l.place
