use Rattle.std.proofs.Common.{◌≡◌}
use Rattle.log_answers.specs.names.Flights.{first_of_lane}
use Rattle.log_answers.proofs.names.flights.first_of_lane.Given as goal

-- none of those before is of the lane
abbrev pub invariant-loop-age : goal.invariant-loop-age
invariant-loop-age l = first_of_lane l.header l.age-iterator ≡ first_of_lane l.header l.messages
