use Rattle.std.proofs.Common.{◌≡◌, ◌-◌, true, Some, None, get_or, sym, ap, subst, ◌∙◌}
use Rattle.std.specs.Option.{is_some, IfSome}
use Rattle.chain_list.proofs.Rows.{held_at}
use Rattle.chain_list.proofs.row.Row.value.Goals as goal

pub get-requires : goal.get-requires
get-requires g c =
    let values = c.self.inside.values in
    let links = c.self.inside.links in
    let place = c.args.place in
    let held = held_at values links.items place c.self.invariant
    (subst (λ v. is_some (get_or v place None) ≡ true) (sym c.self.view_is) c.requires) in
    ap is_some held.value_is

pub returns : goal.returns
returns g c =
    let values = c.self.inside.values in
    let links = c.self.inside.links in
    let place = c.args.place in
    let held = held_at values links.items place c.self.invariant
    (subst (λ v. is_some (get_or v place None) ≡ true) (sym c.self.view_is) c.requires) in
    let found : Some c.get.result.now ≡ Some held.value = sym c.get.ensures ∙ held.value_is in
    let same : c.get.result.now ≡ held.value = cc in
    rw (← c.self.view_is) (subst (λ o. IfSome o (λ n. c.get.result.now ≡ n.value)) (sym held.node_is) same)
