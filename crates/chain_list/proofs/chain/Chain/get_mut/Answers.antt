use Rattle.std.proofs.Common.{◌≡◌, Some, sym, ap, subst, ◌∙◌, inl, arith}
use Rattle.std.specs.Option.{is_some, IfSome}
use Rattle.chain_list.specs.Chain.{chain_list}
use Rattle.chain_list.proofs.ChainKept
use Rattle.chain_list.proofs.ChainKept.{seen}
use Rattle.chain_list.proofs.chain.Chain.get_mut.Goals as goal

pub value_mut-requires : goal.value_mut-requires
value_mut-requires g c =
    let key = c.args.key in
    let live = sym c.is_live.ensures ∙ c.if-not-is_live.false in
    let s = seen _ _ _ _ _ c.self.invariant key live in
    ap is_some s.node_is

pub invariant_of-self-lent : goal.invariant_of-self-lent
invariant_of-self-lent g c =
    let key = c.args.key in
    let live = sym c.is_live.ensures ∙ c.if-not-is_live.false in
    let s = seen _ _ _ _ _ c.self.invariant key live in
    λ w. ChainKept.settled _ _ _ _ _ (ChainKept.valued-seen _ _ _ _ _ c.self.invariant key s w)

pub returns : goal.returns
returns g c =
    let key = c.args.key in
    let live = sym c.is_live.ensures ∙ c.if-not-is_live.false in
    let s = seen _ _ _ _ _ c.self.invariant key live in
    let m = c.self.inside.nodes in
    let ss = c.self.inside.stamps.items in
    let first = c.self.inside.first in
    let left = λ (w : g.row.T.Denot). ChainKept.entries-chain _ _ _ _ _ (ChainKept.valued-seen _ _ _ _ _ c.self.invariant key s w)
    ∙ sym (ChainKept.changed-seen _ _ _ _ _ c.self.invariant key s w) in
    let is = subst (λ o. IfSome o (λ n. c.value_mut.result.now ≡ n.value)) s.node_is c.value_mut.ensures.value in
    rw (← c.self.view_is) (
      (λ i. inl (c.value_mut.result.ghost_name, λ w. chain_list (left w i) m.spare c.self.inside.given)),
      record { writes_back = tt; value = ap (λ v. Some v) is ∙ sym s.value_is; steps = omega (arith, c.value_mut.ensures.steps) },
    )
