use Rattle.std.proofs.Common.{◌≡◌, ◌<◌, ◌+◌, ◌^◌, ◌++◌, length, replicate, sym, subst, ◌∙◌, arith}
use Rattle.chain_list.specs.Joined.{no_links, joined}
use Rattle.chain_list.proofs.Rows.{length-joined, joined-more}
use Rattle.chain_list.proofs.row.Row.grow.Goals as goal

pub reserve-requires : goal.reserve-requires
reserve-requires g c =
    let values = c.self.inside.values in
    let links = c.self.inside.links in
    let room = subst (λ v. length v + c.args.more < 2 ^ 32) (sym c.self.view_is) c.requires in
    omega (arith, room, length-joined values links.items, c.self.invariant)

pub grow-requires : goal.grow-requires
grow-requires g c =
    let values = c.self.inside.values in
    let links = c.self.inside.links in
    let room = subst (λ v. length v + c.args.more < 2 ^ 32) (sym c.self.view_is) c.requires in
    omega (arith, room, length-joined values links.items)

pub returns-clause-ok : goal.returns-clause-ok
returns-clause-ok g c =
    let values = c.self.inside.values in
    let links = c.self.inside.links in
    let items : c.lengthen.new.self.items ≡ links.items ++ replicate c.args.more no_links =
    c.lengthen.ensures ∙ (λ i. c.reserve.ensures.items i ++ replicate c.args.more (c.no_links.ensures i)) in
    rw (← c.self.view_is) ((λ i. joined (c.in_ok-grow.ensures.ok i) (items i))
    ∙ joined-more values links.items c.args.more c.self.invariant)
