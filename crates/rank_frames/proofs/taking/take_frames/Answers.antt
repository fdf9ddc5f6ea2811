use Rattle.std.proofs.lemmas.Result.{err_from_is_err_and}
use Rattle.rank_frames.proofs.By.{by-none, by-stops, by-then}
use Rattle.rank_frames.proofs.taking.take_frames.Goals as goal

pub loop-alloc-init : goal.loop-alloc-init
loop-alloc-init g c = by-none _ _ _ c.requires

pub loop-alloc-preserved : goal.loop-alloc-preserved
loop-alloc-preserved g c = by-then _ _ _ _ _ _ _ _ _ c.loop-alloc.invariant c.in_ok-take_frame.ensures.went

pub returns-in_err-take_frame-clause-went : goal.returns-in_err-take_frame-clause-went
returns-in_err-take_frame-clause-went g c =
    let p = err_from_is_err_and c.from_residual.result c.from_residual.ensures.1 in
    rw (p.1, p.2) (by-stops _ _ _ _ _ _ _ _ _ _ c.loop-alloc.invariant c.in_err-take_frame.ensures.went)
