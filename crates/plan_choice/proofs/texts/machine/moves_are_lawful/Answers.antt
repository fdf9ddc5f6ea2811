-- By `Moments`.
use Rattle.plan_choice.proofs.texts.machine.Moments.{begun_lawful, fired_lawful, returned_lawful, taken_lawful}
use Rattle.plan_choice.proofs.texts.machine.moves_are_lawful.Goals as goal

pub returns-clause-start : goal.returns-clause-start
returns-clause-start c = λ ranks ks m r h. begun_lawful ranks ks m r h

pub returns-clause-firing : goal.returns-clause-firing
returns-clause-firing c = λ ranks ks m r s i j e h. fired_lawful ranks ks m r s i j e h

pub returns-clause-request : goal.returns-clause-request
returns-clause-request c = λ ranks ks m r a rest at_most i e h. taken_lawful ranks ks m r a rest at_most i e h

pub returns-clause-answer : goal.returns-clause-answer
returns-clause-answer c = λ ranks ks m r a rest i e h. returned_lawful ranks ks m r a rest i e h
