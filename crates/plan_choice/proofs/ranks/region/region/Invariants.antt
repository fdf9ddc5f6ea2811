use Rattle.std.proofs.Common.{◌≡◌, flat_map}
use Rattle.plan_core.specs.Plan.{from_to}
use Rattle.plan_choice.specs.texts.view.Calls.{first_bytes}
use Rattle.plan_choice.proofs.ranks.region.region.Given as goal

abbrev pub invariant-loop-step : goal.invariant-loop-step
invariant-loop-step l = l.bytes.items ≡ flat_map (first_bytes l.kinds l.rank) (from_to 0 l.step)
