use Rattle.std.proofs.Common.{◌≡◌, ◌<◌, ◌≤◌, length, ap, sym, subst}
use Rattle.ni_model.specs.State.{Delivers, target}
use Rattle.cuts.specs.histories.History.{May}
use Rattle.cuts.specs.histories.History.Local.{Receive}
use Rattle.rank_node.specs.Copies.{has_start}
use Rattle.rank_node.specs.Node.{NodeState, task_from}
use Rattle.rank_node.proofs.Nodes.{receipt-node}
use Rattle.rank_node.proofs.node.Node.receive.Goals as goal

pub invariant_of-self : goal.invariant_of-self
invariant_of-self c =
    let n : NodeState = record {
      task = task_from c.self.inside.compiled c.self.inside.began.value.list c.self.inside.called.value.items;
      kept = c.self.inside.kept;
      diary = c.self.inside.history;
      nic = c.self.inside.nic;
      strays = c.self.inside.strays;
      closed =
          c.self.inside.gates;
    } in
    let may : May (has_start n.diary.locals) n.nic (Receive c.args.source c.args.lane c.args.message) =
    subst (λ (m : NodeState). May (has_start m.diary.locals) m.nic (Receive c.args.source c.args.lane c.args.message))
    (sym c.self.view_is) (c.requires.source, c.requires.target, c.requires.lane, c.note_receipt.ensures.kept, c.requires.due) in
    let some : 0 < n.diary.receipts = subst (λ (m : NodeState). 0 < m.diary.receipts) (sym c.self.view_is) c.requires.receipts in
    let fits : length c.args.message.bytes ≤ n.diary.bytes = subst (λ (m : NodeState). length c.args.message.bytes ≤ m.diary.bytes)
    (sym c.self.view_is) c.requires.bytes in
    let left : c.deliver_keeping.new.self ≡ (target c.self.inside.nic c.args.message).state =
    ap (λ (d : Delivers). d.state) c.deliver_keeping.ensures.does in (
      rw (c.note_receipt.ensures.does, left) (receipt-node n c.args.source c.args.lane c.args.message may some fits c.self.invariant.0),
      c.self.invariant.1,
    )
