use Rattle.std.proofs.Common.{IsTrue, None, ap, subst, sym, ◌↔◌, ◌≡◌}
use Rattle.ni_model.specs.Ready.{Fires, fired, is_ready, target_at}
use Rattle.rank_node.specs.Node.{NodeState, task_from}
use Rattle.rank_node.proofs.Sending.{none-sent, sends-none}
use Rattle.rank_node.proofs.Nodes.{fire-node}
use Rattle.rank_node.proofs.node.Node.fire.Goals as goal

pub invariant_of-self : goal.invariant_of-self
invariant_of-self c =
    let n : NodeState = record {
      task = task_from c.self.inside.compiled c.self.inside.began.value.list c.self.inside.called.value.items;
      kept = c.self.inside.kept;
      diary = c.self.inside.history;
      nic = c.self.inside.nic;
      strays = c.self.inside.strays;
      closed =
          c.self.inside.gates;
    } in
    let ready : IsTrue (is_ready c.self.inside.nic c.args.number) = subst (λ (m : NodeState). IsTrue (is_ready m.nic c.args.number))
    (sym c.self.view_is) c.requires in
    let left : c.fire_using.new.self ≡ (fired c.self.inside.nic c.args.number).state =
    ap (λ (f : Fires). f.state) c.fire_using.ensures.does in
    (rw (c.note_fire.ensures, left) (fire-node n c.args.number ready c.self.invariant.0), c.self.invariant.1)

pub returns-clause-none : goal.returns-clause-none
returns-clause-none c =
    let e : c.fire_using.result ≡ (fired c.self.inside.nic c.args.number).message =
    ap (λ (f : Fires). f.message) c.fire_using.ensures.does in
    subst (λ (m : NodeState). (c.fire_using.result ≡ None) ↔ (target_at m.nic c.args.number ≡ None)) c.self.view_is (
      (λ n. none-sent c.self.inside.nic c.args.number c.fire_using.result e n),
      (λ n. sends-none c.self.inside.nic c.args.number c.fire_using.result e n),
    )
