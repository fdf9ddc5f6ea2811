use Rattle.std.proofs.Common.{◌≡◌, ◌+◌, None, true, get_or, sym, subst}
use Rattle.std.specs.Option.{is_some, IfSome}
use Rattle.chain_list.specs.Chain.{chain_list}
use Rattle.chain_list.proofs.ChainKept
use Rattle.chain_list.proofs.chain.Chain.push_back.Goals as goal

pub set_next-requires : goal.set_next-requires
set_next-requires g c =
    let made = c.make-place in
    subst (λ k. IfSome c.self.inside.last (λ p. is_some (get_or k.places p None) ≡ true)) (sym made.ensures.nodes)
    (ChainKept.live-made _ _ _ _ _ made.result _ c.self.invariant made.ensures.within)

pub invariant_of-self : goal.invariant_of-self
invariant_of-self g c =
    let made = c.make-place in
    ChainKept.settled _ _ _ _ _ (ChainKept.pushed _ _ _ _ _ made.result c.self.inside.given c.args.value _ _ _ _ _ c.self.invariant
    made.ensures.within made.ensures.free
    made.ensures.nodes c.set_next.ensures.nodes c.set_next.ensures.first c.set_previous.ensures.nodes c.set.ensures.items).0

pub returns-clause-chain : goal.returns-clause-chain
returns-clause-chain g c =
    let made = c.make-place in
    let p = ChainKept.pushed _ _ _ _ _ made.result c.self.inside.given c.args.value _ _ _ _ _ c.self.invariant made.ensures.within
    made.ensures.free
    made.ensures.nodes c.set_next.ensures.nodes c.set_next.ensures.first c.set_previous.ensures.nodes c.set.ensures.items in
    let is = ChainKept.entries-chain _ _ _ _ _ p.0 in
    rw (← c.self.view_is) (λ i. chain_list (is i) (p.1 i) (c.self.inside.given + 1))
