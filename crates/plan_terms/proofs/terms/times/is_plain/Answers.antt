-- Operation by operation.
use Rattle.plan_terms.proofs.terms.Elements.{plain_band, plain_bor, plain_bxor, plain_max, plain_min, plain_prod, plain_sum}
use Rattle.plan_terms.proofs.terms.times.is_plain.Goals as goal

pub returns-in-Min : goal.returns-in-Min
returns-in-Min c = λ _. rw c.in-Min.is plain_min

pub returns-in-Max : goal.returns-in-Max
returns-in-Max c = λ _. rw c.in-Max.is plain_max

pub returns-in-Sum : goal.returns-in-Sum
returns-in-Sum c = λ _. rw c.in-Sum.is plain_sum

pub returns-in-Prod : goal.returns-in-Prod
returns-in-Prod c = λ _. rw c.in-Prod.is plain_prod

pub returns-in-Bor : goal.returns-in-Bor
returns-in-Bor c = λ _. rw c.in-Bor.is plain_bor

pub returns-in-Band : goal.returns-in-Band
returns-in-Band c = λ _. rw c.in-Band.is plain_band

pub returns-in-Bxor : goal.returns-in-Bxor
returns-in-Bxor c = λ _. rw c.in-Bxor.is plain_bxor
