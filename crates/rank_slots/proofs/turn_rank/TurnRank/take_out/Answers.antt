use Rattle.std.proofs.Common.{[], ◌++◌, List, append-nil, subst, sym}
use Rattle.std.specs.Option.{option_to_list}
use Rattle.rank_slots.specs.declared.ports.OutPort.{OutPort}
use Rattle.rank_slots.specs.declared.ports.InPort.{InPort}
use Rattle.rank_slots.specs.Lists.{Each}
use Rattle.rank_slots.specs.Slots.{OutOk, Tied}
use Rattle.rank_slots.proofs.Snocs.{each_last, popped}
use Rattle.rank_slots.proofs.Slotwise.{tied-less}
use Rattle.rank_slots.proofs.turn_rank.TurnRank.take_out.Goals as goal

pub invariant_of-self : goal.invariant_of-self
invariant_of-self c = let s = c.args.self.now in let p = s.job.schedule.plan in record {
  tied = tied-less p s.job.inputs s.node.value c.pop.new.self.items (option_to_list c.pop.result) s.ins.items []
      (subst (λ (outs : List OutPort). Tied p s.job.inputs s.node.value outs (s.ins.items ++ [])) c.pop.ensures.items
      (subst (λ (ins : List InPort). Tied p s.job.inputs s.node.value s.outs.items ins) (sym (append-nil s.ins.items)) s.tied));
}

pub returns-clause-port : goal.returns-clause-port
returns-clause-port c = let s = c.args.self.now in let p = s.job.schedule.plan in
    each_last (OutOk p s.job.inputs s.node.value) c.pop.new.self.items c.in-Some.port
    (subst (Each (OutOk p s.job.inputs s.node.value)) (popped _ _ c.pop.result c.in-Some.port c.pop.ensures.items c.in-Some.is) s.tied.out)
