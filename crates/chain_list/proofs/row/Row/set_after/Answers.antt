use Rattle.std.proofs.Common.{◌≡◌, true, Some, None, get_or, set, sym, ap, subst, ◌∙◌}
use Rattle.std.specs.Option.{is_some, IfSome}
use Rattle.chain_list.specs.declared.row.Links.{Links}
use Rattle.chain_list.specs.NodeMap.{node}
use Rattle.chain_list.specs.Joined.{links_of, with_links, joined}
use Rattle.chain_list.proofs.Rows.{set-links, held_at}
use Rattle.chain_list.proofs.row.Row.set_after.Goals as goal

pub at-links-requires : goal.at-links-requires
at-links-requires g c =
    let values = c.self.inside.values in
    let links = c.self.inside.links in
    let place = c.args.place in
    let held = held_at values links.items place c.self.invariant
    (subst (λ v. is_some (get_or v place None) ≡ true) (sym c.self.view_is) c.requires) in
    held.within

pub set-requires : goal.set-requires
set-requires g c =
    let values = c.self.inside.values in
    let links = c.self.inside.links in
    let place = c.args.place in
    let held = held_at values links.items place c.self.invariant
    (subst (λ v. is_some (get_or v place None) ≡ true) (sym c.self.view_is) c.requires) in
    held.within

pub returns : goal.returns
returns g c =
    let values = c.self.inside.values in
    let links = c.self.inside.links in
    let place = c.args.place in
    let held = held_at values links.items place c.self.invariant
    (subst (λ v. is_some (get_or v place None) ≡ true) (sym c.self.view_is) c.requires) in
    let found = c.at-links.result in
    let same : found ≡ held.links = c.at-links.ensures ∙ held.links_is found in
    let now = links_of found.before c.args.to in
    rw (← c.self.view_is) (subst (λ o. IfSome o (λ n. joined values c.set.new.self.items ≡ set (joined values links.items) place
    (Some (node n.value n.before c.args.to)))) (sym held.node_is)
    (ap (λ l. joined values l) c.set.ensures.items ∙ set-links values links.items place now held.within
    ∙ ap (λ o. set (joined values links.items) place o)
    (ap (λ o. with_links o now) held.value_is ∙ ap (λ (l : Links). Some (node held.value l.before c.args.to)) same)))
