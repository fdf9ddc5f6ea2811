-- By `Receipts`.
use Rattle.op_laws.proofs.Starts.{combined-starts}
use Rattle.cuts.proofs.rest.Receipts.{few_receipts, few_received_bytes}
use Rattle.std.proofs.Common.{arith}
use Rattle.cuts.specs.view.Calls.{prepare}
use Rattle.cuts.specs.histories.Plans.{start_of}
use Rattle.cuts.proofs.histories.FromCut.{prepared_of}
use Rattle.cuts.proofs.histories.StepBounds.{few_steps}
use Rattle.cuts.proofs.rest.receipts_of_a_cut.Goals as goal

pub returns-clause-number : goal.returns-clause-number
returns-clause-number c = λ plan inputs slots world sound fit cut r h. few_receipts combined-starts plan inputs sound fit slots world cut
    r h

pub returns-clause-bytes : goal.returns-clause-bytes
returns-clause-bytes c = λ plan inputs slots world sound fit cut r h. few_received_bytes combined-starts plan inputs sound fit slots world
    cut r h

pub returns-clause-steps : goal.returns-clause-steps
returns-clause-steps c = λ plan inputs slots world sound fit cut r h.
    let a = few_receipts combined-starts plan inputs sound fit slots world cut r h in
    let b = few_steps plan (slots r) r (start_of plan (slots r) r) (world r) (prepare plan inputs (slots r) r)
    (prepared_of plan inputs sound (slots r) r) (cut.legal r h) in
    omega (arith, a, b)
