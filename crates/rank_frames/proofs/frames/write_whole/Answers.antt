use Rattle.run_text.proofs.Taking.{Takes-one, Takes-then, Takes-none}
use Rattle.rank_frames.proofs.frames.write_whole.Goals as goal

pub loop-rest-init : goal.loop-rest-init
loop-rest-init g c = Takes-none _ _

pub loop-rest-preserved : goal.loop-rest-preserved
loop-rest-preserved g c =
    let old = g.K.Sink.outflow c.args.sink.now in
    let before = g.K.Sink.outflow c.loop-rest.sink in
    let new = g.K.Sink.outflow c.write.new.self in
    let rest = c.loop-rest.rest.now in
    let n = c.in_ok-count.count in
    let one = Takes-one before new rest n c.in_ok-count.ensures.appended c.write.ensures.faults c.write.ensures.finishes in
    rw c.split_at.ensures.back (Takes-then old before new c.args.piece.now rest _ c.loop-rest.invariant one)
