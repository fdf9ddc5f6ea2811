use Rattle.std.proofs.Common.{ℕ, ◌≡◌, ◌-◌, ◌<◌, ◌≤◌, get_or, length, take}
use Rattle.port_io.specs.Ends.{GivesFront}
use Rattle.rank_frames.proofs.frames.read_whole.Given as goal

abbrev pub invariant-loop-at : goal.invariant-loop-at
invariant-loop-at g l = record {
  within : l.at ≤ length l.into;
  most : length l.into ≡ length l.fn.into;
  front : GivesFront (g.S.Source.inflow l.fn.source).left (g.S.Source.inflow l.source).left (take l.at l.into);
  faults : (g.S.Source.inflow l.fn.source).faults ≤ (g.S.Source.inflow l.source).faults;
  bytes : (i : ℕ) → get_or l.into i 0 < 256;
}

abbrev pub decreases-loop-at : goal.decreases-loop-at
decreases-loop-at g l = l.most - l.at
