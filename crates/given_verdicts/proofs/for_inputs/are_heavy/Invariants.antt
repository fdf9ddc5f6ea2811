use Rattle.std.proofs.Common.{◌≡◌, ◌+◌, take}
use Rattle.std.specs.List.{sum_by}
use Rattle.given_verdicts.specs.declared.for_inputs.TheConstants.{MOST_CARRIED}
use Rattle.given_verdicts.proofs.for_inputs.are_heavy.Given as goal

abbrev pub invariant-loop-link : goal.invariant-loop-link
invariant-loop-link l = l.left + sum_by (λ k. k.length) (take l.link-index l.links) ≡ MOST_CARRIED
