use Rattle.std.proofs.Common.{◌<◌, length, sym, ap, ◌∙◌, arith}
use Rattle.chain_list.specs.threads.Nodes.{node_of}
use Rattle.chain_list.proofs.threads.LinkLemmas.{length-nodes, get-nodes}
use Rattle.chain_list.proofs.threads.links.Links.at.Goals as goal

pub at-requires : goal.at-requires
at-requires c = omega (arith, length-nodes c.self.inside.links.items, ap length c.self.view_is)

pub returns : goal.returns
returns c =
    let ls = c.self.inside.links.items in
    let lt : c.args.place < length ls = omega (arith, length-nodes ls, ap length c.self.view_is) in
    let found = c.at.result in
    rw (← c.self.view_is) (get-nodes ls c.args.place found lt ∙ ap node_of (sym c.at.ensures))
