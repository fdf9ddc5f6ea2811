use Rattle.std.proofs.Common.{length, ap, ◌∙◌, arith}
use Rattle.chain_list.specs.threads.Nodes.{nodes_of}
use Rattle.chain_list.proofs.threads.LinkLemmas.{length-nodes, set-nodes}
use Rattle.chain_list.proofs.threads.links.Links.put.Goals as goal

pub set-requires : goal.set-requires
set-requires c = omega (arith, length-nodes c.self.inside.links.items, ap length c.self.view_is)

pub returns : goal.returns
returns c = rw (← c.self.view_is) (ap nodes_of c.set.ensures.items ∙ set-nodes c.self.inside.links.items c.args.place _)
