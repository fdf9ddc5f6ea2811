use Rattle.std.proofs.Common.{ap, ◌∙◌}
use Rattle.chain_list.specs.threads.Nodes.{nodes_of}
use Rattle.chain_list.proofs.threads.LinkLemmas.{nodes-replicate}
use Rattle.chain_list.proofs.threads.links.Links.with_len.Goals as goal

pub returns : goal.returns
returns c = ap nodes_of c.in_ok-links.ensures ∙ nodes-replicate c.args.len _
