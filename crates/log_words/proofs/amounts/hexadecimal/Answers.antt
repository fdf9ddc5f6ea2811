use Rattle.std.proofs.Common.{◌-◌, ◌^◌, get_or, sym, ◌∙◌, arith}
use Rattle.log_words.proofs.Digits.{finished, more_small, step, stop_at}
use Rattle.log_words.proofs.amounts.hexadecimal.Goals as goal

pub returns-in_err-number : goal.returns-in_err-number
returns-in_err-number c =
    rw c.from_residual.ensures
    (sym (stop_at (2 ^ 64 - 1) c.loop-b.number c.loop-b.b-index c.args.digits.now (omega arith) c.in_err-number.ensures)
    ∙ c.loop-b.invariant.reads)

pub loop-b-preserved : goal.loop-b-preserved
loop-b-preserved c = record {
  small = more_small (2 ^ 64 - 1) c.loop-b.number _ (get_or c.args.digits.now c.loop-b.b-index 0) c.in_ok-number.ensures;
  reads =
      sym (step (2 ^ 64 - 1) c.loop-b.number _ c.loop-b.b-index c.args.digits.now (omega arith) c.in_ok-number.ensures)
      ∙ c.loop-b.invariant.reads;
}

pub returns : goal.returns
returns c =
    sym (finished (2 ^ 64 - 1) c.loop-b.number c.loop-b.b-index c.args.digits.now (omega arith) c.loop-b.invariant.small)
    ∙ c.loop-b.invariant.reads
