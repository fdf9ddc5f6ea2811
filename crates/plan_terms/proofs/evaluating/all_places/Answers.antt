-- One cell more in each turn.
use Rattle.std.proofs.Common.{◌+◌, ◌<◌, [], length, get_or, ap, sym, subst, ◌∙◌, arith}
use Rattle.plan_core.specs.Plan.{in_links}
use Rattle.plan_tables.proofs.Passes.{get-row, length-table}
use Rattle.plan_terms.proofs.terms.Tables.{kept_on, same_table}
use Rattle.plan_terms.specs.Cells.{AreCells, IsNext}
use Rattle.plan_terms.proofs.NextCell.{come_to, none_yet, one_more}
use Rattle.plan_terms.proofs.evaluating.all_places.Goals as goal

pub at-requires : goal.at-requires
at-requires c =
    let p = c.args.plan.now in
    let n = c.cell_count-c-end.ensures in
    let t = c.loop-c-test.true in
    let e = length-table (in_links p) (length p.cells) c.args.into.now c.requires.table in
    omega (arith, e, n, t)

pub next_places-requires-clause-ranks : goal.next_places-requires-clause-ranks
next_places-requires-clause-ranks c = c.loop-c.invariant.keeps.ranks ∙ c.requires.ranks

pub next_places-requires-clause-links : goal.next_places-requires-clause-links
next_places-requires-clause-links c =
    let p = c.args.plan.now in
    let n = c.cell_count-c-end.ensures in
    let t = c.loop-c-test.true in
    let there : c.loop-c.c < length p.cells = omega (arith, n, t) in
    c.at.ensures ∙ ap (λ v. get_or v c.loop-c.c []) c.requires.table ∙ get-row (in_links p) (length p.cells) c.loop-c.c [] there

pub next_places-requires-clause-comes : goal.next_places-requires-clause-comes
next_places-requires-clause-comes c =
    let p = c.args.plan.now in
    let n = c.cell_count-c-end.ensures in
    let t = c.loop-c-test.true in
    let there : c.loop-c.c < length p.cells = omega (arith, n, t) in
    come_to p c.loop-c.c c.at.result.now
    (c.at.ensures ∙ ap (λ v. get_or v c.loop-c.c []) c.requires.table ∙ get-row (in_links p) (length p.cells) c.loop-c.c [] there)

pub loop-c-init : goal.loop-c-init
loop-c-init c = record {
  keeps = same_table c.args.terms.now;
  are = subst (AreCells c.args.plan.now c.args.count c.args.terms.now 0) (sym c.in_ok-cells.ensures.items)
      (none_yet c.args.plan.now c.args.count c.args.terms.now);
}

pub loop-c-preserved : goal.loop-c-preserved
loop-c-preserved c = record {
  keeps = kept_on c.args.terms.now c.loop-c.terms c.next_places.new.terms c.loop-c.invariant.keeps c.next_places.ensures.keeps;
  are = subst (AreCells c.args.plan.now c.args.count c.next_places.new.terms (c.loop-c.c + 1)) (sym c.in_ok-push.ensures.items)
      (one_more c.args.plan.now c.args.count c.loop-c.terms c.next_places.new.terms c.loop-c.c c.loop-c.cells.items c.in_ok-places.places
      c.next_places.ensures.keeps c.loop-c.invariant.are
      (subst (λ v. IsNext c.args.plan.now c.args.count c.next_places.new.terms c.loop-c.c v c.in_ok-places.places) c.as_slice.ensures.value
      c.in_ok-places.ensures.is));
}
