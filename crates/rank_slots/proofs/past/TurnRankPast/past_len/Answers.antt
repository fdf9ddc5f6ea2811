use Rattle.std.proofs.Common.{List, ap, arith, length}
use Rattle.ptl_types.specs.declared.steps.LocalStep.{LocalStep}
use Rattle.rank_node.specs.Copies.{listed as step_of}
use Rattle.rank_node.specs.Node.{NodeState}
use Rattle.rank_slots.proofs.Chronicles.{as-long}
use Rattle.rank_slots.proofs.Snocs.{length_map}
use Rattle.rank_slots.proofs.past.TurnRankPast.past_len.Goals as goal

pub returns : goal.returns
returns c =
    let long = as-long c.args.self.now in let told = ap (λ (l : List LocalStep). length l) c.history.ensures.value in
    let listed = ap (λ (l : List LocalStep). length l) c.history.ensures.listed in
    let same = length_map step_of c.deref.result.now.diary.locals in let node =
    ap (λ (n : NodeState). length n.diary.locals) c.deref.ensures in
    first_of (omega (arith, long, told, listed, same, node), grind (arith, long, told, listed, same, node))
