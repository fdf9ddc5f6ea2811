use Rattle.std.proofs.Common.{◌≡◌, ◌<◌, ◌∙◌, Some, length, subst, sym, arith}
use Rattle.ni_model.specs.Tables.{lookup}
use Rattle.cuts.specs.view.Slots.{Slots, done_ct}
use Rattle.rank_node.specs.Handles.{Agrees}
use Rattle.rank_node.specs.Node.{NodeState}
use Rattle.rank_node.proofs.Nodes.{done-told, done-known}
use Rattle.rank_node.proofs.node.Node.counted.Goals as goal

pub unreachable-requires : goal.unreachable-requires
unreachable-requires c =
    let n = c.self.invariant.0 in
    let size = n.counters in
    let some : 0 < length c.self.inside.kept.counters = omega arith in
    done-known c.self.inside.nic c.self.inside.kept c.counter.result c.in-Err.field-0 n.all some c.counter.ensures.kept
    (sym c.in-Err.is ∙ c.ct_get.ensures.value)

pub returns-clause-value : goal.returns-clause-value
returns-clause-value c =
    let n = c.self.invariant.0 in
    let size = n.counters in
    let some : 0 < length c.self.inside.kept.counters = omega arith in
    subst (λ (m : NodeState). (k : Slots) → Agrees k m.kept → lookup (done_ct k) m.nic.cts.live ≡ Some c.in-Ok.count) c.self.view_is
    (done-told c.self.inside.nic c.self.inside.kept c.counter.result c.in-Ok.count n.all some c.counter.ensures.kept
    (sym c.in-Ok.is ∙ c.ct_get.ensures.value) (λ k g. c.counter.ensures.value k.ct g.counters))
