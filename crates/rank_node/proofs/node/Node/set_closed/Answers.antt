use Rattle.rank_node.specs.Node.{NodeState, task_from}
use Rattle.rank_node.proofs.Nodes.{gated-is}
use Rattle.rank_node.proofs.node.Node.set_closed.Goals as goal

pub invariant_of-self : goal.invariant_of-self
invariant_of-self c =
    let n : NodeState = record {
      task = task_from c.self.inside.compiled c.self.inside.began.value.list c.self.inside.called.value.items;
      kept = c.self.inside.kept;
      diary = c.self.inside.history;
      nic = c.self.inside.nic;
      strays = c.self.inside.strays;
      closed =
          c.self.inside.gates;
    } in
    (rw c.set.ensures (gated-is n c.args.d c.args.closed c.self.invariant.0), c.self.invariant.1)
