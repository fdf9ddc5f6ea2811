use Rattle.std.proofs.Common.{◌≡◌, ◌≤◌, ◌+◌, [], false, ◌∙◌, length, ap, arith, subst, sym}
use Rattle.std.proofs.lemmas.List.{length-replicate}
use Rattle.ptl_types.specs.Filled.{Filled}
use Rattle.rank_node.specs.Copies.{Diary}
use Rattle.rank_node.specs.Node.{IsCompiled, IsPrepared, NodeState, task_from}
use Rattle.rank_node.proofs.Nodes.{installed-node}
use Rattle.rank_node.proofs.node.Node.install.Goals as goal

pub invariant_of-result : goal.invariant_of-result
invariant_of-result c =
    let began = c.of-began.result.value in
    let called = c.of-called.result.value in
    let n : NodeState = record {
      task = task_from c.args.compiled began.list called.items;
      kept = c.in_ok-nic.kept;
      diary =
          c.in_ok-history.history;
      nic = c.in_ok-nic.nic;
      strays = c.args.strays;
      closed = c.in_ok-gates.gates;
    } in
    let same : c.args.compiled.region ≡ began = sym c.of-began.ensures in
    let moved : c.replace-region.result ≡ began = c.replace-region.ensures.value ∙ same in
    let calls : c.args.compiled.calls ≡ called = sym c.of-called.ensures in
    let compiled : IsCompiled n.task =
    subst (λ v. IsCompiled (task_from c.args.compiled began.list v.items)) calls
    (subst (λ (f : Filled). IsCompiled (task_from c.args.compiled f.list c.args.compiled.calls.items)) same c.requires) in
    let prepared : IsPrepared n.task n.nic n.kept =
    subst (λ v. IsPrepared (task_from c.args.compiled began.list v.items) n.nic n.kept) calls
    (subst (λ (f : Filled). IsPrepared (task_from c.args.compiled f.list c.args.compiled.calls.items) n.nic n.kept) moved
    c.in_ok-nic.ensures) in
    let none : c.in_ok-history.history.locals ≡ [] = ap (λ (d : Diary). d.locals) c.in_ok-history.ensures in
    let steps = ap (λ (d : Diary). d.room) c.in_ok-history.ensures in
    let receipts = ap (λ (d : Diary). d.receipts) c.in_ok-history.ensures in
    let bytes = ap (λ (d : Diary). d.bytes) c.in_ok-history.ensures in
    let waits = c.pending.ensures.value in
    let room : 1 + (length c.in_ok-nic.nic.pending.waiting + c.in_ok-history.history.receipts) ≤ c.in_ok-history.history.room =
    omega arith in
    let gates = ap length c.in_ok-gates.ensures ∙ length-replicate c.args.compiled.ranks false in
    (installed-node n compiled prepared none room receipts bytes gates, c.in_ok-buffer.ensures.capacity)
