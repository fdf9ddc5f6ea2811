use Rattle.std.proofs.Common.{sym, ◌∙◌, arith}
use Rattle.log_answers.proofs.Digits.{finished, step, stop_at}
use Rattle.log_answers.proofs.hexes.are_digits_of.Goals as goal

pub returns-in-None : goal.returns-in-None
returns-in-None c =
    sym (stop_at c.loop-b.b-index c.args.bytes.now c.loop-b.rest.now (omega arith) c.in-None.ensures.none) ∙ c.loop-b.invariant

pub loop-b-preserved : goal.loop-b-preserved
loop-b-preserved c =
    sym (step c.loop-b.b-index c.args.bytes.now c.loop-b.rest.now c.in-Some.rest.now (omega arith) c.in-Some.ensures.some)
    ∙ c.loop-b.invariant

pub returns : goal.returns
returns c =
    c.is.ensures.value ∙ sym (finished c.loop-b.b-index c.args.bytes.now c.loop-b.rest.now (omega arith)) ∙ c.loop-b.invariant
