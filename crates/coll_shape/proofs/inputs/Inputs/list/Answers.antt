use Rattle.std.proofs.Common.{◌+◌, ◌*◌, [], get_or, sym, ap, ◌∙◌, arith}
use Rattle.std.proofs.lemmas.List.{get_or_read_under}
use Rattle.coll_shape.proofs.Rows.{place-in, before-end, row-at}
use Rattle.coll_shape.proofs.inputs.Inputs.list.Goals as goal

pub index-requires : goal.index-requires
index-requires c =
    let p = place-in c.self.inside.ranks c.self.inside.inputs c.args.input c.args.r c.self.inside.lists.items c.args.self.now
    c.self.invariant c.self.view_is c.requires.input c.requires.rank in
    let b = before-end c.self.inside.ranks c.self.inside.inputs c.args.input c.args.r p in
    let i = c.self.invariant in
    omega (arith, b, i)

pub returns : goal.returns
returns c =
    let p = place-in c.self.inside.ranks c.self.inside.inputs c.args.input c.args.r c.self.inside.lists.items c.args.self.now
    c.self.invariant c.self.view_is c.requires.input c.requires.rank in
    record {
      value = c.as_slice.ensures.value
          ∙ (get_or_read_under c.self.inside.lists.items (c.args.input * c.self.inside.ranks + c.args.r)
          (c.self.inside.inputs * c.self.inside.ranks) _ [] c.index.ensures
          (before-end c.self.inside.ranks c.self.inside.inputs c.args.input c.args.r p) (sym c.self.invariant)
          ∙ (sym (row-at c.self.inside.ranks c.self.inside.inputs c.args.input c.args.r c.self.inside.lists.items [] p.row p.place)
          ∙ ap (λ v. get_or (get_or v c.args.input []) c.args.r []) c.self.view_is));
    }
