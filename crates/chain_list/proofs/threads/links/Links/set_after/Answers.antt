use Rattle.std.proofs.Common.{◌<◌, Some, length, set, sym, ap, ◌∙◌, arith}
use Rattle.chain_list.specs.Relinked.{with_after}
use Rattle.chain_list.specs.NodeMap.{node}
use Rattle.chain_list.specs.threads.Nodes.{place_in, node_of, nodes_of}
use Rattle.chain_list.proofs.threads.LinkLemmas.{length-nodes, get-nodes, set-nodes, code-fits}
use Rattle.chain_list.proofs.threads.links.Links.set_after.Goals as goal

pub code_of-code-requires : goal.code_of-code-requires
code_of-code-requires c = code-fits c.args.to (length c.args.self.now)
    (omega (arith, length-nodes c.self.inside.links.items, ap length c.self.view_is, c.self.invariant)) c.requires.to

pub at-link-requires : goal.at-link-requires
at-link-requires c = omega (arith, length-nodes c.self.inside.links.items, ap length c.self.view_is)

pub set-requires : goal.set-requires
set-requires c = omega (arith, length-nodes c.self.inside.links.items, ap length c.self.view_is)

pub returns : goal.returns
returns c =
    let ls = c.self.inside.links.items in
    let lt : c.args.place < length ls = omega (arith, length-nodes ls, ap length c.self.view_is) in
    let found = c.at-link.result in
    rw (← c.self.view_is) (ap nodes_of c.set.ensures.items ∙ set-nodes ls c.args.place (record found { after = c.code_of-code.result })
    ∙ ap (λ o. set (nodes_of ls) c.args.place (Some (node found.thread (place_in found.before) o))) c.code_of-code.ensures
    ∙ ap (λ n. set (nodes_of ls) c.args.place (with_after c.args.to n))
    (sym (get-nodes ls c.args.place found lt ∙ ap node_of (sym c.at-link.ensures))))
