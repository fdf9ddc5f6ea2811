use Rattle.std.proofs.Common.{◌≡◌, Some, true, sym, ap, subst, ◌∙◌}
use Rattle.std.specs.Option.{is_some, IfSome}
use Rattle.chain_list.specs.Chain.{value_at}
use Rattle.chain_list.proofs.ChainKept.{seen}
use Rattle.chain_list.proofs.chain.Chain.get.Goals as goal

pub value-requires : goal.value-requires
value-requires g c =
    let key = c.args.key in
    let given : is_some (value_at key c.args.self.now.entries) ≡ true = cc in
    let live = subst (λ v. is_some (value_at key v.entries) ≡ true) (sym c.self.view_is) given in
    let s = seen _ _ _ _ _ c.self.invariant key live in
    ap is_some s.node_is

pub returns-clause-value : goal.returns-clause-value
returns-clause-value g c =
    let key = c.args.key in
    let given : is_some (value_at key c.args.self.now.entries) ≡ true = cc in
    let live = subst (λ v. is_some (value_at key v.entries) ≡ true) (sym c.self.view_is) given in
    let s = seen _ _ _ _ _ c.self.invariant key live in
    let is = subst (λ o. IfSome o (λ n. c.value.result.now ≡ n.value)) s.node_is c.value.ensures.value in
    ap (λ v. Some v) is ∙ sym s.value_is ∙ ap (λ v. value_at key v.entries) c.self.view_is
