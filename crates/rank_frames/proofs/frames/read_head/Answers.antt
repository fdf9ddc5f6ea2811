-- A first number, and then not all of the second.
use Rattle.std.proofs.Common.{◌≤◌, ◌+◌, length, arith}
use Rattle.std.proofs.lemmas.Result.{err_from_is_err_and}
use Rattle.std.specs.Int.{w32, to_le_bytes}
use Rattle.rank_frames.proofs.By.{lacks-then}
use Rattle.rank_frames.proofs.frames.read_head.Goals as goal

pub returns-in_err-count-clause-stops : goal.returns-in_err-count-clause-stops
returns-in_err-count-clause-stops g c =
    let r = c.from_residual-in_err-count in
    let p = err_from_is_err_and r.result r.ensures.1 in
    let fits : length (to_le_bytes w32 c.in_ok-rank.rank) + 4 ≤ 8 = omega arith in
    rw p.1 (lacks-then p.0 (g.S.Source.inflow c.args.source.now) (g.S.Source.inflow c.read_number.new.source)
    (g.S.Source.inflow c.read_number-2.new.source) (to_le_bytes w32 c.in_ok-rank.rank) 4 8 c.in_ok-rank.ensures.front
    c.in_ok-rank.ensures.faults fits (rw p.2 c.in_err-count.ensures.stops))
