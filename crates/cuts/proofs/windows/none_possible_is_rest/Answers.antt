use Rattle.op_laws.proofs.OpLaws.{op_laws}
use Rattle.op_laws.proofs.Starts.{combined-starts}
use Rattle.op_laws.proofs.Swaps.{combined-swaps}
use Rattle.cuts.specs.histories.Plans.{system_of}
use Rattle.cuts.proofs.rest.FromRest.{completes}
use Rattle.cuts.proofs.rest.Moments.{still_rest, stuck_still}
use Rattle.cuts.proofs.windows.Stuck.{none_stuck}
use Rattle.cuts.proofs.windows.none_possible_is_rest.Goals as goal

pub returns : goal.returns
returns c = record {
  rest = λ plan inputs slots window scene sound some moment none.
      still_rest plan inputs slots scene.world scene.held moment
      (stuck_still plan inputs sound slots scene.world scene.held window some
      (none_stuck (system_of plan inputs slots) window scene none));
  complete = λ plan inputs slots window scene sound fit some moment none r h.
      completes combined-starts plan inputs sound fit (combined-swaps op_laws) slots scene.world moment.cut
      (still_rest plan inputs slots scene.world scene.held moment
      (stuck_still plan inputs sound slots scene.world scene.held window some
      (none_stuck (system_of plan inputs slots) window scene none))) r h;
}
