-- The members were put in another order, and one more was appended.
use Rattle.std.proofs.lemmas.Result.{on_ok_weaker}
use Rattle.plan_terms.proofs.terms.Folds.{more_after}
use Rattle.plan_terms.proofs.terms.members.Members.add.Goals as goal

pub returns : goal.returns
returns c =
    on_ok_weaker c.append.result
    (more_after c.args.op c.args.ty c.args.self.now c.settle_full.new.self c.append.new.self c.args.member.word c.args.member.times
    c.in_ok-settle_full.ensures)
    c.append.ensures.more
