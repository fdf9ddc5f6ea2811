use Rattle.std.proofs.Common.{◌+◌, ◌≡◌, flat_map}
use Rattle.plan_core.specs.Plan.{from_to}
use Rattle.plan_choice.specs.texts.view.Calls.{step_calls}
use Rattle.plan_choice.specs.texts.view.Install.{before, counters_in}
use Rattle.plan_choice.specs.ranks.Given.{AreMade}
use Rattle.plan_choice.proofs.ranks.installing.make_steps.Given as goal

abbrev pub invariant-loop-step : goal.invariant-loop-step
invariant-loop-step l = record {
  made : AreMade l.kinds (flat_map (step_calls l.kinds) (from_to 0 l.step)) l.fn.nic l.nic l.fn.kept l.kept;
  counter : l.counter ≡ 2 + before counters_in l.kinds l.step;
}
