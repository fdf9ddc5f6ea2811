use Rattle.std.proofs.Common.{◌≡◌, drop}
use Rattle.given_verdicts.specs.Differences.{difference_from}
use Rattle.given_verdicts.proofs.differing.difference.Given as goal

-- the rest of both lists differs where they do
abbrev pub invariant-loop-i : goal.invariant-loop-i
invariant-loop-i l = difference_from 0 l.a l.b ≡ difference_from l.i (drop l.i l.a) (drop l.i l.b)
