-- The node's interface is that of the end of its history.
use Rattle.std.proofs.Common.{◌<◌, ◌∙◌, ap, arith, length, subst, sym}
use Rattle.std.proofs.lemmas.List.{get_or_read}
use Rattle.cuts.specs.histories.System.{state_at}
use Rattle.rank_node.specs.Node.{NodeState}
use Rattle.worlds.specs.parts.Layout.{no_node}
use Rattle.worlds.specs.World.{AreSlots, WorldState, histories_in, ranks_in}
use Rattle.worlds.proofs.Standing.{stands}
use Rattle.worlds.proofs.world.World.nic.Goals as goal

pub returns-clause-state : goal.returns-clause-state
returns-clause-state c = λ slots agree.
    let s = c.self.inside in
    let back = subst (λ (w : WorldState). AreSlots w slots) (sym c.self.view_is) agree in
    let is = stands s.job s.nodes.items s.traffic c.self.invariant in
    let h = subst (λ (w : WorldState). c.args.r < w.schedule.plan.ranks) (sym c.self.view_is) c.requires in
    let size = is.size in
    let inside : c.args.r < length s.nodes.items = omega (arith, h, size) in
    c.nic.ensures
    ∙ ap (λ (x : NodeState). x.nic) (get_or_read s.nodes.items c.args.r c.index.result.now inside c.index.ensures no_node)
    ∙ is.nic slots back c.args.r h
    ∙ ap (λ (w : WorldState). state_at (ranks_in w slots) (histories_in w) c.args.r) c.self.view_is
