use Rattle.std.proofs.Common.{◌≡◌, ◌-◌, true, Some, None, get_or, sym, ap, subst, ◌∙◌}
use Rattle.std.specs.Option.{is_some, IfSome}
use Rattle.chain_list.specs.Joined.{no_links, joined}
use Rattle.chain_list.proofs.Rows.{set-value, held_at}
use Rattle.chain_list.proofs.row.Row.take.Goals as goal

pub take-requires : goal.take-requires
take-requires g c =
    let values = c.self.inside.values in
    let links = c.self.inside.links in
    let place = c.args.place in
    let held = held_at values links.items place c.self.invariant
    (subst (λ v. is_some (get_or v place None) ≡ true) (sym c.self.view_is) c.requires) in
    ap is_some held.value_is

pub returns-clause-value : goal.returns-clause-value
returns-clause-value g c =
    let values = c.self.inside.values in
    let links = c.self.inside.links in
    let place = c.args.place in
    let held = held_at values links.items place c.self.invariant
    (subst (λ v. is_some (get_or v place None) ≡ true) (sym c.self.view_is) c.requires) in
    let found : Some c.take.result ≡ Some held.value = sym c.take.ensures.value ∙ held.value_is in
    let same : c.take.result ≡ held.value = cc in
    rw (← c.self.view_is) (subst (λ o. IfSome o (λ n. c.take.result ≡ n.value)) (sym held.node_is) same)

pub returns-clause-places : goal.returns-clause-places
returns-clause-places g c =
    let values = c.self.inside.values in
    let links = c.self.inside.links in
    let place = c.args.place in
    let held = held_at values links.items place c.self.invariant
    (subst (λ v. is_some (get_or v place None) ≡ true) (sym c.self.view_is) c.requires) in
    rw (← c.self.view_is) (ap (λ v. joined v links.items) c.take.ensures.places ∙ set-value values links.items place None no_links
    held.within)
