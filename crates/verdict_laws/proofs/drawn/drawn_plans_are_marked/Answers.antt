-- With how the plan of a shape puts its steps in order.
use Rattle.verdict_laws.proofs.drawn.Marked.{are_marked}
use Rattle.verdict_laws.proofs.drawn.drawn_plans_are_marked.Goals as goal

pub returns : goal.returns
returns c = λ o a none. are_marked o (c.steps_in_order.ensures.begins o a) a none
