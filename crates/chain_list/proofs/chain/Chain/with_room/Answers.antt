use Rattle.std.proofs.Common.{◌≡◌, ◌+◌, [], refl, ap, ◌∙◌, arith}
use Rattle.chain_list.specs.Chain.{chain_list}
use Rattle.chain_list.specs.NodeMap.{no_nodes}
use Rattle.chain_list.proofs.ChainKept
use Rattle.chain_list.proofs.chain.Chain.with_room.Goals as goal

pub invariant_of-result : goal.invariant_of-result
invariant_of-result g c =
    ChainKept.settled _ _ _ _ _ (ChainKept.grown-chain (no_nodes {X = g.row.T.Denot}) c.in_ok-nodes.nodes [] _ _ _ _ c.args.n c.args.n
    ChainKept.IsChain-none c.in_ok-nodes.ensures c.in_ok-stamps.ensures
    (λ long. refl))

pub returns : goal.returns
returns g c =
    let is = ChainKept.entries-chain _ _ _ _ _ (ChainKept.grown-chain (no_nodes {X = g.row.T.Denot}) c.in_ok-nodes.nodes [] _ _ _ _
    c.args.n c.args.n ChainKept.IsChain-none c.in_ok-nodes.ensures c.in_ok-stamps.ensures
    (λ long. refl)) in
    let nodes = c.in_ok-nodes.ensures in
    let all : 0 + c.args.n ≡ c.args.n = omega arith in
    λ i. chain_list (is i) ((ap (λ m. m.spare) nodes ∙ all) i) 0
