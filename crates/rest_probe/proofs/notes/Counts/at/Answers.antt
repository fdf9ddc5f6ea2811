use Rattle.std.proofs.Common.{◌≡◌, ◌<◌, List, length, sym, subst}
use mathlib.Core.Option.{some}
use lib.ListN.{get_elem?}
use Rattle.atomic_table.proofs.Lists.{at_index}
use Rattle.rest_probe.specs.declared.notes.LaneCount.{LaneCount}
use Rattle.rest_probe.proofs.notes.Counts.at.Goals as goal

pub returns : goal.returns
returns c = let is = c.self.view_is in
    subst (λ (l : List LaneCount). get_elem? l c.args.i ≡ some c.index.result.now) is
    (at_index c.self.inside.items.items c.args.i c.index.result.now
    (subst (λ (l : List LaneCount). c.args.i < length l) (sym is) c.requires) c.index.ensures)
