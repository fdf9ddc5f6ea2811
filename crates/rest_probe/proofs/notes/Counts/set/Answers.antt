use Rattle.std.proofs.Common.{◌<◌, ◌∙◌, List, length, set, ap, ap₂, sym, subst}
use lib.ListN.{get_elem?}
use Rattle.atomic_table.proofs.Lists.{at_index}
use Rattle.rest_probe.specs.declared.notes.LaneCount.{LaneCount}
use Rattle.rest_probe.specs.Counted.{counted}
use Rattle.rest_probe.proofs.Elements.{same-at}
use Rattle.rest_probe.proofs.notes.Counts.set.Goals as goal

pub returns : goal.returns
returns c = λ x there. let is = c.self.view_is in let old = c.self.inside.items.items in let m = c.index_mut-count.result.now in
    let here = at_index old c.args.i m (subst (λ (l : List LaneCount). c.args.i < length l) (sym is) c.requires)
    c.index_mut-count.ensures.value in
    let one = same-at old c.args.i m x here (ap (λ (l : List LaneCount). get_elem? l c.args.i) is ∙ there) in
    ap₂ (λ (l : List LaneCount) (z : LaneCount). set l c.args.i (counted z c.args.number)) is one
