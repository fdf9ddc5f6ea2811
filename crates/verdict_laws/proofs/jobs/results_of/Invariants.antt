use Rattle.std.proofs.Common.{◌≡◌, drop}
use Rattle.verdict_laws.specs.GivenJobs.{named_cells, results_of}
use Rattle.verdict_laws.proofs.jobs.results_of.Given as goal

-- those of the lines that are left
abbrev pub invariant-loop-i : goal.invariant-loop-i
invariant-loop-i l = named_cells l.held (drop l.i l.marks) ≡ results_of l.shape l.marks
