-- One node more in each turn.
use Rattle.std.proofs.Common.{ℕ, ◌+◌, ◌<◌, ◌∙◌, List, ap, length, subst, sym}
use Rattle.std.proofs.lemmas.List.{length_push}
use Rattle.rank_node.specs.Node.{NodeState}
use Rattle.worlds.specs.parts.Layout.{no_node, node_at}
use Rattle.worlds.specs.opening.Fresh.{IsFresh}
use Rattle.worlds.proofs.opening.Lists.{pushed}
use Rattle.worlds.proofs.opening.installing.install_all.Goals as goal

pub loop-r-preserved : goal.loop-r-preserved
loop-r-preserved c =
    let job = c.args.job.now in
    let r = c.loop-r.r in
    let strays = c.args.strays in
    let nodes = c.loop-r.nodes.items in
    let node = c.in_ok-node.node in
    let made = c.in_ok-node.ensures in
    let before = c.loop-r.invariant in
    let news = c.in_ok-push.ensures.items in
    record {
      size = ap length news ∙ length_push nodes node ∙ ap (λ n. n + 1) before.size;
      fresh = subst (λ (v : List NodeState). (k : ℕ) → k < r + 1
          → IsFresh job.schedule.plan job.inputs job.schedule.plan.ranks strays k (node_at v k)) (sym news)
          (pushed (λ k x. IsFresh job.schedule.plan job.inputs job.schedule.plan.ranks strays k x) nodes node no_node r before.size
          before.fresh (record {
            compiled = made.compiled;
            kept = made.node;
            locals = made.history;
            steps = made.steps;
            strays = made.strays;
            gates = made.gates;
          }));
    }
