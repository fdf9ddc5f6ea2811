use Rattle.std.proofs.Common.{sym, ◌∙◌}
use Rattle.plan_costs.proofs.Order.{taken_out}
use Rattle.plan_costs.proofs.events.Queue.pop.Goals as goal

pub returns : goal.returns
returns c = taken_out c.args.self.now c.pop_first.new.self.keys c.in-Some.event (sym c.self.view_is ∙ c.in-Some.ensures.removal)
    c.in-Some.ensures.all_above
