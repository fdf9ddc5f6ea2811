use Rattle.std.proofs.Common.{Some, length, set, ap, ◌∙◌, arith}
use Rattle.chain_list.specs.NodeMap.{node}
use Rattle.chain_list.specs.threads.Nodes.{nodes_of}
use Rattle.chain_list.proofs.threads.LinkLemmas.{length-nodes, set-nodes, code-fits}
use Rattle.chain_list.proofs.threads.links.Links.put_between.Goals as goal

pub code_of-before-requires : goal.code_of-before-requires
code_of-before-requires c = code-fits c.args.before (length c.args.self.now)
    (omega (arith, length-nodes c.self.inside.links.items, ap length c.self.view_is, c.self.invariant)) c.requires.before

pub code_of-after-requires : goal.code_of-after-requires
code_of-after-requires c = code-fits c.args.after (length c.args.self.now)
    (omega (arith, length-nodes c.self.inside.links.items, ap length c.self.view_is, c.self.invariant)) c.requires.after

pub set-requires : goal.set-requires
set-requires c = omega (arith, length-nodes c.self.inside.links.items, ap length c.self.view_is)

pub returns : goal.returns
returns c =
    rw (← c.self.view_is) (ap nodes_of c.set.ensures.items ∙ set-nodes c.self.inside.links.items c.args.place
    (record { thread = c.args.thread; before = c.code_of-before.result; after = c.code_of-after.result })
    ∙ (λ i. set (nodes_of c.self.inside.links.items) c.args.place
    (Some (node c.args.thread (c.code_of-before.ensures i) (c.code_of-after.ensures i)))))
