use Rattle.run_text.proofs.Taking.{EndsWith-then, EndsWith-stops}
use Rattle.plan_top.proofs.writing.write_marked.Goals as goal

pub returns-in_err-put_marked : goal.returns-in_err-put_marked
returns-in_err-put_marked g c =
    let put = rw (c.buffers.ensures.value, c.requires) at c.in_err-put_marked.ensures in
    EndsWith-stops _ _ _ _ c.from_residual.ensures.0 put

pub returns : goal.returns
returns g c =
    let put = rw (c.buffers.ensures.value, c.requires) at c.in_ok-put_marked.ensures in EndsWith-then _ _ _ _ _ _ put c.end.ensures.ends
