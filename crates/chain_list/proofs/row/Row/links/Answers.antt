use Rattle.std.proofs.Common.{◌≡◌, true, ℕ, Option, None, get_or, sym, ap, subst, ◌∙◌}
use Rattle.std.specs.Option.{is_some, IfSome}
use Rattle.chain_list.specs.declared.row.Links.{Links}
use Rattle.chain_list.specs.Joined.{links_of}
use Rattle.chain_list.proofs.Rows.{held_at}
use Rattle.chain_list.proofs.row.Row.links.Goals as goal

pub at-links-requires : goal.at-links-requires
at-links-requires g c =
    let values = c.self.inside.values in
    let links = c.self.inside.links in
    let place = c.args.place in
    let held = held_at values links.items place c.self.invariant
    (subst (λ v. is_some (get_or v place None) ≡ true) (sym c.self.view_is) c.requires) in
    held.within

pub returns : goal.returns
returns g c =
    let values = c.self.inside.values in
    let links = c.self.inside.links in
    let place = c.args.place in
    let held = held_at values links.items place c.self.invariant
    (subst (λ v. is_some (get_or v place None) ≡ true) (sym c.self.view_is) c.requires) in
    let found = c.at-links.result in
    let same : found ≡ held.links = c.at-links.ensures ∙ held.links_is found in
    let pair : Links → Option ℕ × Option ℕ = λ l. (l.before, l.after) in
    rw (← c.self.view_is) (subst (λ o. IfSome o (λ n. pair found ≡ pair (links_of n.before n.after))) (sym held.node_is) (ap pair same))
