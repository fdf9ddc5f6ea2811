use Rattle.plan_terms.proofs.terms.Folds.{one_more_member}
use Rattle.plan_terms.proofs.terms.members.Members.add_each.Goals as goal

pub loop-member-preserved : goal.loop-member-preserved
loop-member-preserved c =
    one_more_member c.args.op c.args.ty c.args.self.now c.loop-member.self c.add.new.self c.args.members.now c.loop-member.member-index
    c.loop-member-test.true c.loop-member.invariant c.in_ok-add.ensures
