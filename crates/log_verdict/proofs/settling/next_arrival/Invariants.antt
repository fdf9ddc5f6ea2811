use Rattle.std.proofs.Common.{◌≡◌}
use Rattle.log_verdict.specs.Settling.{next_arrival}
use Rattle.log_verdict.proofs.settling.next_arrival.Given as goal

-- none of those before can arrive
abbrev pub invariant-loop-age : goal.invariant-loop-age
invariant-loop-age l = next_arrival l.age-iterator l.scene ≡ next_arrival l.scene.flights.messages l.scene
