use Rattle.std.proofs.Common.{◌≡◌}
use Rattle.engine_cases.proofs.chains.a_thousand_times.Given as goal

abbrev pub invariant-loop-turn : goal.invariant-loop-turn
invariant-loop-turn g l = record { room : l.chain.spare ≡ 1; given : l.chain.given ≡ l.turn }
