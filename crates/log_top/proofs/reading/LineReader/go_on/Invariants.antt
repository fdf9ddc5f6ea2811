use Rattle.std.proofs.Common.{◌-◌, length}
use Rattle.log_lines.specs.declared.lines.TheConstants.{LONGEST_LINE}
use Rattle.log_top.proofs.LinesRead.{GoneOn}
use Rattle.log_top.proofs.reading.LineReader.go_on.Given as goal

-- the line was read on so far
abbrev pub invariant-pieces : goal.invariant-pieces
invariant-pieces g l = GoneOn l.fn.self (g.S.Source.inflow l.fn.source) l.self (g.S.Source.inflow l.source)

abbrev pub decreases-pieces : goal.decreases-pieces
decreases-pieces g l = LONGEST_LINE - length l.self.line
