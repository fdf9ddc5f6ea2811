use Rattle.std.proofs.Common.{◌≡◌, ◌<◌, Some, None, length, get_or, set, sym, ap, subst, ◌∙◌, arith}
use Rattle.chain_list.specs.Joined.{no_links, joined}
use Rattle.chain_list.proofs.Rows.{length-joined, set-joined, empty_at}
use Rattle.chain_list.proofs.row.Row.put.Goals as goal

pub set-requires : goal.set-requires
set-requires g c =
    let values = c.self.inside.values in
    let links = c.self.inside.links in
    let place = c.args.place in
    let within = subst (λ v. place < length v) (sym c.self.view_is) c.requires.within in
    let fits : place < length links.items = omega (arith, within, length-joined values links.items, c.self.invariant) in
    fits

pub put-requires-clause-within : goal.put-requires-clause-within
put-requires-clause-within g c =
    let values = c.self.inside.values in
    let links = c.self.inside.links in
    let place = c.args.place in
    let within = subst (λ v. place < length v) (sym c.self.view_is) c.requires.within in
    let fits : place < length links.items = omega (arith, within, length-joined values links.items, c.self.invariant) in
    omega (arith, fits, c.self.invariant)

pub put-requires-clause-empty : goal.put-requires-clause-empty
put-requires-clause-empty g c =
    empty_at c.self.inside.values c.self.inside.links.items c.args.place c.self.invariant
    (subst (λ v. get_or v c.args.place None ≡ None) (sym c.self.view_is) c.requires.empty)

pub returns : goal.returns
returns g c =
    let values = c.self.inside.values in
    let links = c.self.inside.links in
    let place = c.args.place in
    let within = subst (λ v. place < length v) (sym c.self.view_is) c.requires.within in
    let fits : place < length links.items = omega (arith, within, length-joined values links.items, c.self.invariant) in
    let items : c.set.new.self.items ≡ set links.items place no_links = c.set.ensures.items
    ∙ ap (λ l. set links.items place l) c.no_links.ensures in
    rw (← c.self.view_is) ((λ i. joined (c.put.ensures i) (items i)) ∙ set-joined values links.items place (Some c.args.value) no_links
    fits)
