use Rattle.op_laws.proofs.OpLaws.{op_laws}
use Rattle.op_laws.proofs.Starts.{combined-starts}
use Rattle.op_laws.proofs.Swaps.{combined-swaps}
use Rattle.cuts.proofs.rest.FromRest.{completes}
use Rattle.cuts.proofs.interleavings.Interleavings.{but_strays_rest, one_stray_more, reached_moment, still_but_strays}
use Rattle.cuts.proofs.interleavings.Whole.{steps_made}
use Rattle.cuts.proofs.interleavings.strays_change_no_end.Goals as goal

pub returns : goal.returns
returns c = record {
  complete = λ plan inputs slots steps strays world held sound fit x h r in_range.
      let m = reached_moment combined-starts plan inputs sound fit (combined-swaps op_laws) slots steps strays world held x in
      completes combined-starts plan inputs sound fit (combined-swaps op_laws) slots world m.cut
      (but_strays_rest combined-starts plan inputs sound fit (combined-swaps op_laws) slots world held m h) r in_range;
  rest = λ plan inputs slots steps strays world held sound fit x h.
      but_strays_rest combined-starts plan inputs sound fit (combined-swaps op_laws) slots world held
      (reached_moment combined-starts plan inputs sound fit (combined-swaps op_laws) slots steps strays world held x) h;
  steps = λ plan inputs slots steps strays world held sound fit x h.
      steps_made combined-starts plan inputs sound fit (combined-swaps op_laws) slots steps strays world held x h;
  still = λ ranks world held h. still_but_strays ranks world held h;
  more = λ ranks steps strays world held s d m x h from to used stray.
      one_stray_more ranks steps strays world held s d m x h from to used stray;
}
