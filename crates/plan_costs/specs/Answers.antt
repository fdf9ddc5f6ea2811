-- What is answered for a plan.
use Rattle.std.specs.Prelude.{◌<◌, ◌≤◌, ◌^◌, Result, Ok, Err}
use Rattle.plan_core.specs.Plan.{Plan}
use Rattle.plan_costs.specs.declared.costs.CostFault.{CostFault}
use Rattle.plan_costs.specs.declared.costs.CostFault.TheVariants.{TooLong, NoMemory}
use Rattle.plan_costs.specs.declared.numbers.LogGp.{LogGp}
use Rattle.plan_costs.specs.declared.times.Times.{Times}
use Rattle.plan_costs.specs.Times.{AreTimes, in_turn}

-- its times, exactly where all messages one after the other take less than 2^64 picoseconds; want of memory is free
abbrev pub IsAnswered : LogGp → Plan → Result Times CostFault → Type 0
IsAnswered n p (Ok times) = (in_turn n p < 2 ^ 64) × AreTimes n p times
IsAnswered n p (Err TooLong) = 2 ^ 64 ≤ in_turn n p
IsAnswered n p (Err NoMemory) = Unit {0}
