-- The folds begin as nothing, and the links are landed on them.
use Rattle.std.proofs.Common.{◌/◌, List, length, map, ap, ◌∙◌, arith}
use Rattle.plan_core.specs.declared.Cell.{Cell}
use Rattle.plan_core.specs.Plan.{cell}
use Rattle.plan_core.specs.Values.{land_all}
use Rattle.plan_terms.specs.declared.terms.term.Member.{Member}
use Rattle.plan_terms.specs.terms.Folds.{folds_bytes}
use Rattle.plan_terms.specs.Cells.{carried_from}
use Rattle.plan_terms.proofs.NextCell.{next_folded, whole_again}
use Rattle.plan_terms.proofs.evaluating.folded_places.Goals as goal

pub returns-clause-is : goal.returns-clause-is
returns-clause-is c =
    let p = c.args.next.plan.now in
    let k = c.cell_at-cell.result in
    let op = c.args.op in
    let before = c.args.next.before.now in
    let links = c.args.links.now in
    let kept = c.land_atomics.auto.folds in
    let items = ap length c.deref_mut.ensures.value in
    let long = c.deref_mut.ensures.len in
    let whole = whole_again c.in_ok-folds.folds.len c.land_atomics.new.folds c.in_ok-folds.folds.items (omega (arith, kept, items))
    (omega (arith, long, items)) in
    next_folded p c.args.next.count c.land_atomics.new.terms c.fold_places.new.terms c.args.next.number (k.length / c.size-size.result) k op
    before links c.in_ok-places.places.items c.land_atomics.new.folds c.requires.links c.cell_at-cell.ensures
    (ap (λ (x : Cell). x.op) c.cell_at-cell.ensures ∙ c.requires.op) c.requires.other
    (ap (λ w. k.length / w) c.size-size.ensures) c.fold_places.ensures.keeps
    (λ inputs V solution.
    c.in_ok-land_atomics.ensures.landed inputs V solution
    ∙ ap (λ (ms : List (List Member)). land_all p (carried_from p (map (map V) before)) links
    (folds_bytes V op (cell p c.args.next.number).ty ms))
    (c.deref_mut.ensures.value ∙ c.in_ok-folds.ensures))
    (λ inputs V solution. c.in_ok-places.ensures.are inputs V solution ∙ ap (folds_bytes V op k.ty) (c.deref.ensures.value ∙ whole))
