use Rattle.op_laws.proofs.OpLaws.{op_laws}
use Rattle.op_laws.proofs.Starts.{combined-starts}
use Rattle.op_laws.proofs.Swaps.{combined-swaps}
use Rattle.plan_core.proofs.Lists.{In-filter_cases}
use Rattle.cuts.specs.histories.Plans.{system_of}
use Rattle.cuts.proofs.orders.Choosing.{listed_made}
use Rattle.cuts.specs.orders.Chosen.{enabled_steps, step_made}
use Rattle.cuts.proofs.rest.Moments.{next_local}
use Rattle.cuts.specs.windows.Possible.{is_possible}
use Rattle.cuts.proofs.windows.each_possible_step.Goals as goal

pub returns : goal.returns
returns c = record {
  made = λ ranks window scene step i. listed_made ranks scene step
      (In-filter_cases (is_possible ranks window scene) step (enabled_steps ranks scene) i).0;
  keeps = λ plan inputs slots window scene step sound fit moment i.
      let k = system_of plan inputs slots in
      let s = listed_made k scene step (In-filter_cases (is_possible k window scene) step (enabled_steps k scene) i).0 in
      next_local combined-starts plan inputs sound fit (combined-swaps op_laws) slots scene.world scene.held moment
      (step_made k step scene).world (step_made k step scene).held s;
}
