use Rattle.std.proofs.Common.{◌≡◌, Some, None, true, sym, ap, subst, ◌∙◌}
use Rattle.std.specs.Option.{is_some, IfSome}
use Rattle.chain_list.specs.Chain.{value_at, first_or, key_after}
use Rattle.chain_list.specs.ChainFields.{stamp_or}
use Rattle.chain_list.proofs.ChainKept
use Rattle.chain_list.proofs.ChainKept.{seen}
use Rattle.chain_list.proofs.chain.Chain.next.Goals as goal

pub links-after-requires : goal.links-after-requires
links-after-requires g c =
    let key = c.args.key in
    let given : is_some (value_at key c.args.self.now.entries) ≡ true = c.requires in
    let live = subst (λ v. is_some (value_at key v.entries) ≡ true) (sym c.self.view_is) given in
    let s = seen _ _ _ _ _ c.self.invariant key live in
    ap is_some s.node_is

pub key_at-requires : goal.key_at-requires
key_at-requires g c =
    let key = c.args.key in
    let given : is_some (value_at key c.args.self.now.entries) ≡ true = c.requires in
    let live = subst (λ v. is_some (value_at key v.entries) ≡ true) (sym c.self.view_is) given in
    let s = seen _ _ _ _ _ c.self.invariant key live in
    let lk = subst (λ o. IfSome o (λ n. c.links-after.result ≡ (n.before, n.after))) s.node_is c.links-after.ensures.links in
    let at : first_or s.behind None ≡ Some c.in-Some.place = sym (ap (λ k. k.1) lk) ∙ c.in-Some.is in
    (ChainKept.next-key _ _ _ _ _ c.self.invariant key s c.in-Some.place at).0

pub returns-in-Some-clause-key : goal.returns-in-Some-clause-key
returns-in-Some-clause-key g c =
    let key = c.args.key in
    let given : is_some (value_at key c.args.self.now.entries) ≡ true = c.requires in
    let live = subst (λ v. is_some (value_at key v.entries) ≡ true) (sym c.self.view_is) given in
    let s = seen _ _ _ _ _ c.self.invariant key live in
    let lk = subst (λ o. IfSome o (λ n. c.links-after.result ≡ (n.before, n.after))) s.node_is c.links-after.ensures.links in
    let at : first_or s.behind None ≡ Some c.in-Some.place = sym (ap (λ k. k.1) lk) ∙ c.in-Some.is in
    let next = (ChainKept.next-key _ _ _ _ _ c.self.invariant key s c.in-Some.place at).1 in
    let stamp = ap stamp_or c.key_at.ensures.1 in
    (λ i. Some (record { place = c.key_at.ensures.0 i; stamp = stamp i })) ∙ sym next ∙ ap (λ v. key_after key v.entries) c.self.view_is

pub returns-in-None-clause-key : goal.returns-in-None-clause-key
returns-in-None-clause-key g c =
    let key = c.args.key in
    let given : is_some (value_at key c.args.self.now.entries) ≡ true = c.requires in
    let live = subst (λ v. is_some (value_at key v.entries) ≡ true) (sym c.self.view_is) given in
    let s = seen _ _ _ _ _ c.self.invariant key live in
    let lk = subst (λ o. IfSome o (λ n. c.links-after.result ≡ (n.before, n.after))) s.node_is c.links-after.ensures.links in
    let at : first_or s.behind None ≡ None = sym (ap (λ k. k.1) lk) ∙ c.in-None.is in
    sym (ChainKept.no_next-key _ _ _ _ _ c.self.invariant key s at) ∙ ap (λ v. key_after key v.entries) c.self.view_is
