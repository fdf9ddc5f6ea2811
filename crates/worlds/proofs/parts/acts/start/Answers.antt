-- By `start_done`.
use Rattle.std.proofs.Common.{arith, length, count_by, sym, subst, ◌<◌, ◌≡◌}
use Rattle.std.proofs.lemmas.List.{get_or_default}
use Rattle.cuts.specs.histories.History.{is_start}
use Rattle.rank_node.specs.Node.{IsStarted, NodeState}
use Rattle.worlds.specs.parts.Layout.{no_node}
use Rattle.worlds.proofs.parts.Steps.{start_done}
use Rattle.worlds.proofs.parts.acts.start.Goals as goal

pub start_node-requires : goal.start_node-requires
start_node-requires c =
    let inside : c.args.r < length c.args.nodes.now = let size = c.requires.world.world.parts.size in let h = c.requires.rank in
    omega (arith, size, h) in
    subst (λ (n : NodeState). count_by is_start n.diary.locals ≡ 0)
    (sym (get_or_default c.args.nodes.now c.args.r c.index-nodes-r.result no_node inside)) c.requires.waits

pub returns-clause-step : goal.returns-clause-step
returns-clause-step c = λ p inputs k.
    let inside : c.args.r < length c.args.nodes.now = let size = c.requires.world.world.parts.size in let h = c.requires.rank in
    omega (arith, size, h) in
    (start_done p inputs c.args.nodes.now c.args.traffic.now k c.args.r c.requires.rank c.requires.waits c.start_node.new.node
    (subst (λ (n : NodeState). IsStarted n c.start_node.new.node)
    (get_or_default c.args.nodes.now c.args.r c.index-nodes-r.result no_node inside) c.start_node.ensures.step)
    c.start_node.ensures.kept c.started.new.starts c.started.new.firings c.started.ensures.starts c.started.ensures.firings).step

pub returns-clause-world : goal.returns-clause-world
returns-clause-world c = λ p inputs k.
    let inside : c.args.r < length c.args.nodes.now = let size = c.requires.world.world.parts.size in let h = c.requires.rank in
    omega (arith, size, h) in
    (start_done p inputs c.args.nodes.now c.args.traffic.now k c.args.r c.requires.rank c.requires.waits c.start_node.new.node
    (subst (λ (n : NodeState). IsStarted n c.start_node.new.node)
    (get_or_default c.args.nodes.now c.args.r c.index-nodes-r.result no_node inside) c.start_node.ensures.step)
    c.start_node.ensures.kept c.started.new.starts c.started.new.firings c.started.ensures.starts c.started.ensures.firings).world
