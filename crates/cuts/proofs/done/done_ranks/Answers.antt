-- By `Counted`, `Nothing`, `Left` and `Later`.
use Rattle.std.proofs.Common.{◌+◌, cond, count_by, length}
use Rattle.op_laws.proofs.OpLaws.{op_laws}
use Rattle.op_laws.proofs.Starts.{combined-starts}
use Rattle.op_laws.proofs.Swaps.{combined-swaps}
use Rattle.cuts.proofs.histories.FromCut.{moves_at}
use Rattle.cuts.proofs.histories.Traffic.{own_received}
use Rattle.cuts.specs.machine.Machine.{all_seen}
use Rattle.cuts.specs.machine.Seen.{tells}
use Rattle.ptl_types.specs.declared.headers.Lane.TheVariants.{Answer}
use Rattle.cuts.proofs.done.Counted.{counted, holds_values, within_threshold}
use Rattle.cuts.proofs.done.Later.{stays_done}
use Rattle.cuts.proofs.done.Left.{only_sends}
use Rattle.cuts.proofs.done.Nothing.{nothing_comes}
use Rattle.cuts.proofs.done.done_ranks.Goals as goal

pub returns : goal.returns
returns c = record {
  counts = λ plan inputs slots world sound fit cut r h. (
    count_by tells (all_seen plan (moves_at plan world) r).fired + cond plan.remote (length (own_received Answer (world r))) 0,
    within_threshold combined-starts plan inputs sound fit slots world cut r h,
    counted combined-starts plan inputs sound fit slots world cut r h,
  );
  values = λ plan inputs slots world sound fit cut r h done.
      holds_values combined-starts plan inputs sound fit (combined-swaps op_laws) slots world cut r h done;
  nothing_comes = λ plan inputs slots world sound fit cut r h done later then on s lane k.
      nothing_comes combined-starts plan inputs sound fit slots world cut r h done later then on s lane k;
  left = λ plan inputs slots world sound fit cut r h done. only_sends combined-starts plan inputs sound fit slots world cut r h done;
  stays = λ plan inputs slots world later sound fit cut then on r h done.
      stays_done combined-starts plan inputs sound fit slots world cut r h done later then on;
}
