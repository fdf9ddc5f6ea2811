use Rattle.std.proofs.Common.{[], replicate, Some, None, length, sym, ap, subst, ◌∙◌}
use Rattle.std.proofs.lemmas.List.{length-replicate}
use Rattle.chain_list.specs.NodeMap.{node}
use Rattle.chain_list.specs.threads.Fields.{IsThreads, threads_of}
use Rattle.chain_list.specs.threads.Threads.{woven}
use Rattle.chain_list.proofs.threads.ThreadLemmas.{viewed, settled, no_threads}
use Rattle.chain_list.proofs.threads.threads.Threads.open.Goals as goal

pub invariant_of-result : goal.invariant_of-result
invariant_of-result c =
    let ends = c.in-Ok.ensures.items_if_clones_equal (λ y q. q) in
    settled _ _ _ (subst (λ es. IsThreads c.in_ok-links.links es (replicate c.args.count [])) (sym ends)
    (no_threads c.in_ok-links.links c.args.count))

pub returns : goal.returns
returns c =
    let ends = c.in-Ok.ensures.items_if_clones_equal (λ y q. q) in
    let links = c.in_ok-links.ensures in
    let is = ap (λ es. threads_of c.in_ok-links.links es) ends ∙ viewed _ _ _ (no_threads c.in_ok-links.links c.args.count) in
    let long = ap length links ∙ length-replicate c.args.places (Some (node 0 None None)) in
    λ i. woven (is i) (long i)
