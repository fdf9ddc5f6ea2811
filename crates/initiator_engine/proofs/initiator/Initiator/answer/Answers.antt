use Rattle.std.proofs.Common.{◌≡◌, ◌+◌, ◌≤◌, Some, length, sym, ap, ◌∙◌, arith}
use Rattle.ni_model.specs.Answers.{bound_at}
use Rattle.ni_model.specs.Conditions.{IsBoundIn}
use Rattle.initiator_engine.specs.Initiators.{Initiating}
use Rattle.initiator_engine.proofs.Bounds.{bound_has}
use Rattle.initiator_engine.proofs.Naming.{users-answered}
use Rattle.initiator_engine.proofs.initiator.Initiator.answer.Goals as goal

pub bring-requires-clause-part : goal.bring-requires-clause-part
bring-requires-clause-part c =
    let at : c.self.inside.mds ≡ c.args.self.now.mds = ap (λ (i : Initiating). i.mds) c.self.view_is in
    let e : bound_at c.header.result.now.home c.args.self.now.mds ≡ Some c.in-Some.bound =
    rw (← at) (sym c.bound_of.ensures ∙ c.in-Some.is) in
    bound_has (IsBoundIn (length c.args.region.now)) c.header.result.now.home c.args.self.now.mds c.in-Some.bound c.requires e

pub raise_answer-requires-clause-part : goal.raise_answer-requires-clause-part
raise_answer-requires-clause-part c =
    let at : c.self.inside.mds ≡ c.args.self.now.mds = ap (λ (i : Initiating). i.mds) c.self.view_is in
    let e : bound_at c.header.result.now.home c.args.self.now.mds ≡ Some c.in-Some.bound =
    rw (← at) (sym c.bound_of.ensures ∙ c.in-Some.is) in
    let part : c.in-Some.bound.md.start + c.in-Some.bound.md.length ≤ length c.args.region.now =
    bound_has (IsBoundIn (length c.args.region.now)) c.header.result.now.home c.args.self.now.mds c.in-Some.bound c.requires e in
    omega arith

pub invariant_of-self : goal.invariant_of-self
invariant_of-self c =
    let i = c.self.inside in
    rw c.await_less.ensures (users-answered i.limits i.mds i.cts i.eqs c.header.result.now.home c.self.invariant)
