use Rattle.std.proofs.Common.{◌+◌, ◌≡◌, map}
use Rattle.plan_choice.specs.texts.view.Calls.Call.{Trigger}
use Rattle.plan_choice.specs.texts.view.Install.{before, counters_in, things_in}
use Rattle.plan_choice.specs.ranks.Given.{AreMade}
use Rattle.plan_choice.proofs.ranks.Whole.{works_until}
use Rattle.plan_choice.proofs.ranks.installing.post_all.Given as goal

abbrev pub invariant-loop-step : goal.invariant-loop-step
invariant-loop-step l = record {
  made : AreMade l.kinds (map Trigger (works_until l.kinds l.step)) l.fn.nic l.nic l.kept l.kept;
  counter : l.counter ≡ 2 + before counters_in l.kinds l.step;
  descriptor : l.descriptor ≡ before things_in l.kinds l.step;
}
