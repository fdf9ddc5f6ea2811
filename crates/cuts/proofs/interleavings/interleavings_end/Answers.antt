use Rattle.std.proofs.Common.{arith, refl}
use Rattle.op_laws.proofs.OpLaws.{op_laws}
use Rattle.op_laws.proofs.Starts.{combined-starts}
use Rattle.op_laws.proofs.Swaps.{combined-swaps}
use Rattle.cuts.proofs.interleavings.Interleavings.{all_steps, one_ends, reached_in, reached_moment, reached_plain, steps_by_receipts}
use Rattle.cuts.proofs.interleavings.Strays.{received_were_put}
use Rattle.cuts.proofs.interleavings.interleavings_end.Goals as goal

pub returns : goal.returns
returns c = record {
  moment = λ plan inputs slots steps strays world held sound fit x.
      reached_moment combined-starts plan inputs sound fit (combined-swaps op_laws) slots steps strays world held x;
  counted = λ ranks steps strays world held x. all_steps ranks steps strays world held x;
  by_receipts = λ plan inputs slots steps strays world held sound fit x.
      steps_by_receipts combined-starts plan inputs sound fit (combined-swaps op_laws) slots steps strays world held x;
  received = λ plan inputs slots steps strays world held sound fit x.
      received_were_put combined-starts plan inputs sound fit (combined-swaps op_laws) slots steps strays world held x;
  bounded = λ plan inputs slots steps strays world held sound fit x.
      let a = steps_by_receipts combined-starts plan inputs sound fit (combined-swaps op_laws) slots steps strays world held x in
      let b = received_were_put combined-starts plan inputs sound fit (combined-swaps op_laws) slots steps strays world held x in
      omega (arith, a, b);
  plain = λ ranks world held. (
    (λ x. reached_in ranks world held x),
    (λ x. reached_plain ranks x.0 0 world held x.1 refl),
  );
  some = λ plan inputs slots sound fit.
      let e = one_ends combined-starts plan inputs sound fit (combined-swaps op_laws) slots in
      (e.steps, e.world, e.held, e.reached, e.still);
}
