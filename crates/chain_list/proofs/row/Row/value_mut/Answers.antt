use Rattle.std.proofs.Common.{◌≡◌, ◌-◌, true, Some, None, get_or, set, refl, sym, ap, subst, ◌∙◌}
use Rattle.std.specs.Option.{is_some, IfSome}
use Rattle.chain_list.specs.NodeMap.{valued}
use Rattle.chain_list.specs.Joined.{no_links, with_links, joined}
use Rattle.chain_list.proofs.Rows.{set-value, held_at}
use Rattle.chain_list.proofs.row.Row.value_mut.Goals as goal

pub get_mut-requires : goal.get_mut-requires
get_mut-requires g c =
    let values = c.self.inside.values in
    let links = c.self.inside.links in
    let place = c.args.place in
    let held = held_at values links.items place c.self.invariant
    (subst (λ v. is_some (get_or v place None) ≡ true) (sym c.self.view_is) c.requires) in
    ap is_some held.value_is

pub returns : goal.returns
returns g c =
    let values = c.self.inside.values in
    let links = c.self.inside.links in
    let place = c.args.place in
    let held = held_at values links.items place c.self.invariant
    (subst (λ v. is_some (get_or v place None) ≡ true) (sym c.self.view_is) c.requires) in
    let found : Some c.get_mut.result.now ≡ Some held.value = sym c.get_mut.ensures.value ∙ held.value_is in
    let same : c.get_mut.result.now ≡ held.value = cc in (
      (
        refl,
        λ w. rw (← c.self.view_is) (set-value values links.items place (Some w) no_links held.within
            ∙ ap (λ o. set (joined values links.items) place o) (ap (λ l. with_links (Some w) l) (held.links_is no_links)
            ∙ sym (ap (λ o. valued w o) held.node_is))),
      ),
      record {
        writes_back = tt;
        value = rw (← c.self.view_is)
            (subst (λ o. IfSome o (λ n. c.get_mut.result.now ≡ n.value)) (sym held.node_is) same);
      },
    )
