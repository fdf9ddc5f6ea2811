-- By `Final`.
use Rattle.schedule_compiler.proofs.shapes.Final.{empty-unheld, inputs_fit, unheld-empty, value-held}
use Rattle.schedule_compiler.proofs.shapes.laws.plan_values.Goals as goal

pub returns-clause-fit : goal.returns-clause-fit
returns-clause-fit c = λ o inputs a ins. inputs_fit o inputs a ins

pub returns-clause-values : goal.returns-clause-values
returns-clause-values c = λ o inputs a ins b r d k l z. value-held o inputs a ins b r d k l z

pub returns-clause-empty : goal.returns-clause-empty
returns-clause-empty c = λ o inputs a ins b r k l. (λ z. unheld-empty o inputs a ins b r k l z, λ z. empty-unheld o inputs a ins b r k l z)
