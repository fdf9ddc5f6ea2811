use Rattle.std.proofs.Common.{◌≡◌, []}
use Rattle.match_lists.specs.Lists.{both}
use Rattle.engine_cases.proofs.lists.a_thousand_times.Given as goal

abbrev pub invariant-loop-turn : goal.invariant-loop-turn
invariant-loop-turn g l = l.lists ≡ both [] [] 1 1 l.turn
