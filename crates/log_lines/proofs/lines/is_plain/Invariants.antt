use Rattle.std.proofs.Common.{◌≡◌, drop, true}
use Rattle.log_lines.proofs.Plain.{fine}
use Rattle.log_lines.proofs.lines.is_plain.Given as goal

-- the bytes that are left are fine where the line is
abbrev pub invariant-loop-b : goal.invariant-loop-b
invariant-loop-b l = fine l.begins (drop l.b-index l.line) ≡ fine true l.line
