use Rattle.std.proofs.Common.{◌≡◌, ◌+◌, ◌≤◌, ◌-◌, vec_len}
use Rattle.port_io.specs.Ends.{GivesFront}
use Rattle.run_text.specs.declared.pieces.TheConstants.{PIECE}
use Rattle.run_text.proofs.reading.read_text.Given as goal

abbrev pub invariant-loop-text : goal.invariant-loop-text
invariant-loop-text g l = record {
  front : GivesFront (g.S.Source.inflow l.fn.source).left (g.S.Source.inflow l.source).left l.text.items;
  short : vec_len l.text ≤ l.longest + 1;
  room : vec_len l.piece ≡ PIECE;
  faults : (g.S.Source.inflow l.fn.source).faults ≤ (g.S.Source.inflow l.source).faults;
}

abbrev pub decreases-loop-text : goal.decreases-loop-text
decreases-loop-text g l = l.longest + 1 - vec_len l.text
