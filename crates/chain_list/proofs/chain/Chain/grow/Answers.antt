use Rattle.std.proofs.Common.{◌++◌, None, replicate, refl, ap, ◌∙◌}
use Rattle.chain_list.specs.Chain.{chain_list}
use Rattle.chain_list.proofs.ChainKept
use Rattle.chain_list.proofs.chain.Chain.grow.Goals as goal

pub invariant_of-self-2 : goal.invariant_of-self-2
invariant_of-self-2 g c =
    let stamps = c.lengthen.ensures ∙ ap (λ l. l ++ replicate c.args.more None) c.reserve.ensures.items in
    ChainKept.settled _ _ _ _ _ (ChainKept.grown-chain c.self.inside.nodes c.grow.new.self c.self.inside.stamps.items
    c.lengthen.new.self.items _ _ _ c.args.more c.args.more c.self.invariant c.in_ok-grow.ensures.ok stamps
    (λ long. refl))

pub returns-clause-ok : goal.returns-clause-ok
returns-clause-ok g c =
    let stamps = c.lengthen.ensures ∙ ap (λ l. l ++ replicate c.args.more None) c.reserve.ensures.items in
    let is = ChainKept.entries-chain _ _ _ _ _ (ChainKept.grown-chain c.self.inside.nodes c.grow.new.self c.self.inside.stamps.items
    c.lengthen.new.self.items _ _ _ c.args.more c.args.more c.self.invariant c.in_ok-grow.ensures.ok stamps
    (λ long. refl)) in
    rw (← c.self.view_is) (λ i. chain_list (is i) (c.in_ok-grow.ensures.ok i).spare c.self.inside.given)
