use Rattle.std.proofs.Common.{◌≡◌, Option, Some, None, true, ℕ, get_or, sym, ap, subst, ◌∙◌, arith}
use Rattle.std.specs.Option.{is_some, IfSome}
use Rattle.chain_list.specs.NodeMap.{NodeMap}
use Rattle.chain_list.specs.Relinked.{relinked_after, relinked_before}
use Rattle.chain_list.specs.Chain.{value_at, chain_list}
use Rattle.chain_list.proofs.ChainKept
use Rattle.chain_list.proofs.ChainKept.{seen}
use Rattle.chain_list.proofs.NodeLemmas.{live_within}
use Rattle.chain_list.proofs.chain.Chain.unlink.Goals as goal

pub links-before-requires : goal.links-before-requires
links-before-requires g c =
    let key = c.args.key in
    let given : is_some (value_at key c.args.self.now.entries) ≡ true = cc in
    let live = subst (λ v. is_some (value_at key v.entries) ≡ true) (sym c.self.view_is) given in
    let s = seen _ _ _ _ _ c.self.invariant key live in
    ap is_some s.node_is

pub set_next-requires : goal.set_next-requires
set_next-requires g c =
    let key = c.args.key in
    let given : is_some (value_at key c.args.self.now.entries) ≡ true = cc in
    let live = subst (λ v. is_some (value_at key v.entries) ≡ true) (sym c.self.view_is) given in
    let s = seen _ _ _ _ _ c.self.invariant key live in
    let lk = subst (λ o. IfSome o (λ n. c.links-before.result ≡ (n.before, n.after))) s.node_is c.links-before.ensures.links in
    subst (λ o. IfSome o (λ p. is_some (get_or c.self.inside.nodes.places p None) ≡ true)) (sym (ap (λ k. k.0) lk))
    (ChainKept.live-before _ _ _ _ _ c.self.invariant key s)

pub set_previous-requires : goal.set_previous-requires
set_previous-requires g c =
    let key = c.args.key in
    let given : is_some (value_at key c.args.self.now.entries) ≡ true = cc in
    let live = subst (λ v. is_some (value_at key v.entries) ≡ true) (sym c.self.view_is) given in
    let s = seen _ _ _ _ _ c.self.invariant key live in
    let lk = subst (λ o. IfSome o (λ n. c.links-before.result ≡ (n.before, n.after))) s.node_is c.links-before.ensures.links in
    let b = c.links-before.result.0 in
    let behind = ChainKept.live-behind _ _ _ _ _ c.self.invariant key s b in
    let m1 = c.set_next.ensures.nodes ∙ ap (λ k. relinked_after b k c.self.inside.nodes) (ap (λ k. k.1) lk) in
    subst (λ (q : Option ℕ × NodeMap g.row.T.Denot). IfSome q.0 (λ p. is_some (get_or q.1.places p None) ≡ true))
    (λ i. ((sym lk i).1, sym m1 i)) behind

pub set-requires : goal.set-requires
set-requires g c =
    let key = c.args.key in
    let given : is_some (value_at key c.args.self.now.entries) ≡ true = cc in
    let live = subst (λ v. is_some (value_at key v.entries) ≡ true) (sym c.self.view_is) given in
    let s = seen _ _ _ _ _ c.self.invariant key live in
    let within = live_within c.self.inside.nodes.places key.place (ap is_some s.node_is) in
    omega (arith, within, c.self.invariant.long)

pub free-requires : goal.free-requires
free-requires g c =
    let key = c.args.key in
    let given : is_some (value_at key c.args.self.now.entries) ≡ true = cc in
    let live = subst (λ v. is_some (value_at key v.entries) ≡ true) (sym c.self.view_is) given in
    let s = seen _ _ _ _ _ c.self.invariant key live in
    let lk = subst (λ o. IfSome o (λ n. c.links-before.result ≡ (n.before, n.after))) s.node_is c.links-before.ensures.links in
    let e2 = c.set_previous.ensures.nodes ∙ (λ i. relinked_before (lk i).1 (lk i).0
    ((c.set_next.ensures.nodes ∙ ap (λ (k : Option ℕ × Option ℕ). relinked_after k.0 k.1 c.self.inside.nodes) lk) i)) in
    subst (λ k. is_some (get_or k.places key.place None) ≡ true) (sym e2)
    (ap is_some (ChainKept.node-kept _ _ _ _ _ c.self.invariant key s))

pub invariant_of-self : goal.invariant_of-self
invariant_of-self g c =
    let key = c.args.key in
    let given : is_some (value_at key c.args.self.now.entries) ≡ true = cc in
    let live = subst (λ v. is_some (value_at key v.entries) ≡ true) (sym c.self.view_is) given in
    let s = seen _ _ _ _ _ c.self.invariant key live in
    let lk = subst (λ o. IfSome o (λ n. c.links-before.result ≡ (n.before, n.after))) s.node_is c.links-before.ensures.links in
    let left = ChainKept.unlinked _ _ _ _ _ c.self.invariant key s c.links-before.result c.set_next.new.nodes c.set_previous.new.nodes
    c.free.new.self _ _ _ lk
    c.set_next.ensures.nodes c.set_next.ensures.first c.set_previous.ensures.nodes c.set_previous.ensures.last c.free.ensures.nodes
    c.set.ensures.items in
    ChainKept.settled _ _ _ _ _ left.0

pub returns-clause-value : goal.returns-clause-value
returns-clause-value g c =
    let key = c.args.key in
    let given : is_some (value_at key c.args.self.now.entries) ≡ true = cc in
    let live = subst (λ v. is_some (value_at key v.entries) ≡ true) (sym c.self.view_is) given in
    let s = seen _ _ _ _ _ c.self.invariant key live in
    let lk = subst (λ o. IfSome o (λ n. c.links-before.result ≡ (n.before, n.after))) s.node_is c.links-before.ensures.links in
    let e2 = c.set_previous.ensures.nodes ∙ (λ i. relinked_before (lk i).1 (lk i).0
    ((c.set_next.ensures.nodes ∙ ap (λ (k : Option ℕ × Option ℕ). relinked_after k.0 k.1 c.self.inside.nodes) lk) i)) in
    let at = ap (λ k. get_or k.places key.place None) e2 ∙ ChainKept.node-kept _ _ _ _ _ c.self.invariant key s in
    let is = subst (λ o. IfSome o (λ n. c.free.result ≡ n.value)) at c.free.ensures.value in
    ap (λ v. Some v) is ∙ sym s.value_is ∙ ap (λ v. value_at key v.entries) c.self.view_is

pub returns-clause-taken : goal.returns-clause-taken
returns-clause-taken g c =
    let key = c.args.key in
    let given : is_some (value_at key c.args.self.now.entries) ≡ true = cc in
    let live = subst (λ v. is_some (value_at key v.entries) ≡ true) (sym c.self.view_is) given in
    let s = seen _ _ _ _ _ c.self.invariant key live in
    let lk = subst (λ o. IfSome o (λ n. c.links-before.result ≡ (n.before, n.after))) s.node_is c.links-before.ensures.links in
    let left = ChainKept.unlinked _ _ _ _ _ c.self.invariant key s c.links-before.result c.set_next.new.nodes c.set_previous.new.nodes
    c.free.new.self _ _ _ lk
    c.set_next.ensures.nodes c.set_next.ensures.first c.set_previous.ensures.nodes c.set_previous.ensures.last c.free.ensures.nodes
    c.set.ensures.items in
    let is = ChainKept.entries-chain _ _ _ _ _ left.0 ∙ sym (ChainKept.without-seen _ _ _ _ _ c.self.invariant key s) in
    rw (← c.self.view_is) (λ i. chain_list (is i) (left.1 i) c.self.inside.given)
