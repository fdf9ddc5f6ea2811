-- The shape's own plan was drawn.
use Rattle.plan_agreement.proofs.agreement.agree.Goals as goal

pub against-requires-clause-accepted : goal.against-requires-clause-accepted
against-requires-clause-accepted c = c.in-Ok.ensures.0

pub against-requires-clause-plan : goal.against-requires-clause-plan
against-requires-clause-plan c = c.in-Ok.ensures.1.0

pub against-requires-clause-held : goal.against-requires-clause-held
against-requires-clause-held c = c.in-Ok.ensures.1.1
