use Rattle.std.proofs.Common.{List, subst, sym}
use Rattle.std.specs.Prelude.{is_ok}
use Rattle.rank_slots.specs.declared.ports.OutPort.{OutPort}
use Rattle.rank_slots.specs.Slots.{Tied}
use Rattle.rank_slots.proofs.Slotwise.{tied-more-out}
use Rattle.rank_slots.proofs.turn_rank.TurnRank.add_out.Goals as goal

pub invariant_of-self : goal.invariant_of-self
invariant_of-self c = let s = c.args.self.now in let p = s.job.schedule.plan in record {
  tied = subst (λ (outs : List OutPort). Tied p s.job.inputs s.node.value outs s.ins.items) (sym c.push.ensures.items)
      (tied-more-out p s.job.inputs s.node.value s.outs.items s.ins.items c.args.port (is_ok c.push.result) s.tied c.requires.ok
      c.requires.apart c.requires.gated);
}
