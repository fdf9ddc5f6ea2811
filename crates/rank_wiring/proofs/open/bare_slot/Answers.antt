use Rattle.std.proofs.Common.{List, [], sym, subst}
use Rattle.schedule_compiler.specs.Jobs.{JobOf}
use Rattle.rank_node.specs.Node.{NodeState}
use Rattle.rank_slots.specs.declared.ports.InPort.{InPort}
use Rattle.rank_slots.specs.declared.ports.OutPort.{OutPort}
use Rattle.rank_slots.specs.Slots.{Tied}
use Rattle.rank_wiring.proofs.Fresh.{bare-tied}
use Rattle.rank_wiring.proofs.open.bare_slot.Goals as goal

pub invariant_of-result : goal.invariant_of-result
invariant_of-result c =
    let job = c.args.job.now in let e = c.in_ok-install.ensures in let m = c.in_ok-node.node.value in
    let shared = c.in_ok-shared.shared in
    let bare = bare-tied job.schedule.plan job.inputs c.args.rank c.in_ok-install.field-0 e.compiled e.history e.strays in
    let here = subst (λ (n : NodeState). Tied job.schedule.plan job.inputs n [] []) (sym c.in_ok-node.ensures.ok) bare in
    let same = subst (λ (j : JobOf). Tied j.schedule.plan j.inputs m [] []) (sym c.in_ok-shared.ensures) here in record {
      tied = subst (λ (outs : List OutPort). Tied shared.schedule.plan shared.inputs m outs c.in_ok-ins.ins.items)
          (sym c.in_ok-outs.ensures.items)
          (subst (λ (ins : List InPort). Tied shared.schedule.plan shared.inputs m [] ins) (sym c.in_ok-ins.ensures.items) same);
    }
