use Rattle.std.proofs.Common.{◌≡◌, ◌∙◌, false, nat_lt, count_by, ap, ap₂, refl, sym, subst}
use Rattle.ptl_types.specs.declared.steps.LocalStep.TheVariants.{Start}
use Rattle.cuts.specs.view.Slots.{Slots, counter_at}
use Rattle.cuts.specs.histories.History.{is_start}
use Rattle.cuts.specs.histories.History.Local.{Start as Started}
use Rattle.cuts.specs.start.Start.{go_raised}
use Rattle.rank_node.specs.Handles.{Agrees, AreAllOf}
use Rattle.rank_node.specs.Start.{AreStarted}
use Rattle.rank_node.specs.Copies.{has_start, with_step}
use Rattle.rank_node.specs.Node.{IsStarted, NodeState, start_of, task_from}
use Rattle.rank_node.proofs.Nodes.{start-node, go-all}
use Rattle.rank_node.proofs.node.Node.start.Goals as goal

pub invariant_of-self : goal.invariant_of-self
invariant_of-self c =
    let n : NodeState = record {
      task = task_from c.self.inside.compiled c.self.inside.began.value.list c.self.inside.called.value.items;
      kept = c.self.inside.kept;
      diary = c.self.inside.history;
      nic = c.self.inside.nic;
      strays = c.self.inside.strays;
      closed =
          c.self.inside.gates;
    } in
    let fresh : has_start n.diary.locals ≡ false = ap (nat_lt 0)
    (subst (λ (m : NodeState). count_by is_start m.diary.locals ≡ 0) (sym c.self.view_is) c.requires) in
    let began : AreStarted n.task.longest n.task.cells n.task.own n.nic c.start_cells.new.nic n.kept c.start_cells.new.kept =
    rw (c.deref.ensures.value, c.deref-2.ensures.value) at c.start_cells.ensures.started in
    let left : (k : Slots) → Agrees k c.start_cells.new.kept → c.raise_go.new.nic ≡ (start_of n.task k).by n.nic = λ k a.
    let go : c.counter_of-go.result ≡ counter_at k n.task.cells n.task.go = c.counter_of-go.ensures k a
    ∙ ap (λ cells. counter_at k cells n.task.go) c.deref-3.ensures.value in
    c.raise_go.ensures ∙ ap₂ go_raised go (began.state k a) in
    let all : AreAllOf c.raise_go.new.nic c.start_cells.new.kept = subst (λ v. AreAllOf v c.start_cells.new.kept) (sym c.raise_go.ensures)
    (go-all c.counter_of-go.result c.start_cells.new.nic c.start_cells.new.kept began.all) in
    let new : NodeState = record {
      task = n.task;
      kept = c.start_cells.new.kept;
      diary = with_step Start Started n.diary;
      nic =
          c.raise_go.new.nic;
      strays = n.strays;
      closed = n.closed;
    } in
    let st : IsStarted n new = record { task = refl; strays = refl; closed = refl; diary = refl; nic = left; slots = began.kept } in
    (rw c.note_start.ensures (start-node n new fresh st all began.only c.self.invariant.0), c.start_cells.ensures.buffer)
