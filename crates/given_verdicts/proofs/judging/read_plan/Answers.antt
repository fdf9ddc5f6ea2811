-- A plan of the shape's ranks.
use Rattle.std.proofs.Common.{◌+◌, ◌*◌, ◌∙◌, arith}
use Rattle.std.proofs.lemmas.Result.{IfOk-weaker}
use Rattle.given_verdicts.proofs.Answering.{plans_read}
use Rattle.given_verdicts.proofs.judging.read_plan.Goals as goal

pub returns-clause-read : goal.returns-clause-read
returns-clause-read c = rw (c.ranks-ranks.ensures.value, c.input_count.ensures.value, c.buffers.ensures.value) at c.read_given.ensures

pub returns-clause-ranks : goal.returns-clause-ranks
returns-clause-ranks c =
    IfOk-weaker c.read_given.result _ _ (λ g h. h.ranks ∙ c.ranks-ranks.ensures.value)
    (plans_read c.ranks-ranks.result (c.ranks-ranks.result + c.input_count.result * c.ranks-ranks.result) c.buffers.result.now
    c.args.first c.args.text.now c.read_given.result c.read_given.ensures)

pub returns-clause-few_marks : goal.returns-clause-few_marks
returns-clause-few_marks c =
    IfOk-weaker c.read_given.result _ _ (λ g h. let few = h.few in let at_most = c.requires in omega (arith, few, at_most))
    (plans_read c.ranks-ranks.result (c.ranks-ranks.result + c.input_count.result * c.ranks-ranks.result) c.buffers.result.now
    c.args.first c.args.text.now c.read_given.result c.read_given.ensures)
