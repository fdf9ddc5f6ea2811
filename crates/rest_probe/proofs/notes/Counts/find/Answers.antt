use Rattle.std.proofs.Common.{◌≡◌, ◌∙◌, List, ap, sym, refl, arith}
use mathlib.Core.Option.{some}
use lib.ListN.{get_elem?}
use Rattle.atomic_table.proofs.Lists.{at_index}
use Rattle.rest_probe.specs.declared.notes.LaneCount.{LaneCount}
use Rattle.rest_probe.proofs.notes.Counts.find.Goals as goal

pub returns-then-is_on-clause-some : goal.returns-then-is_on-clause-some
returns-then-is_on-clause-some c = let is = c.self.view_is in let m = c.index.result.now in let on = c.if-is_on.ensures.0 refl in
    let here = at_index c.self.inside.items.items c.args.likely m (omega arith) c.index.ensures in
    let same : m ≡ record { rank = c.args.rank; lane = c.args.lane; number = m.number } =
    λ k. record { rank = on.0 k; lane = on.1 k; number = m.number } in record {
      at = c.args.likely;
      there = ap (λ (l : List LaneCount). get_elem? l c.args.likely) (sym is) ∙ (here ∙ ap some same);
    }
