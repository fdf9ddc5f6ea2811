-- By the table of all cells.
use Rattle.std.proofs.Common.{Bool, cond, Option, Some, None, length, ap, ◌∙◌, subst, sym}
use Rattle.mark_judge.specs.declared.flaw.MarkFlaw.{MarkFlaw}
use Rattle.mark_judge.specs.declared.flaw.MarkFlaw.TheVariants.{EarlyEntry}
use Rattle.mark_judge.specs.Due.{mark_at}
use Rattle.mark_judge.specs.Judged.{early_flaw}
use Rattle.mark_judge.specs.Tables.{AreBound, is_unbound}
use Rattle.mark_judge.proofs.Binding.{unbound_is}
use Rattle.mark_judge.proofs.Finds.{found_same_below}
use Rattle.mark_judge.proofs.bound.first_early_flaw.Goals as goal

pub returns-in-Ok : goal.returns-in-Ok
returns-in-Ok c =
    let p = c.args.plan.now in
    let ms = c.args.marks.now in
    let bound = c.as_slice.result.now in
    c.first_unbound.ensures
    ∙ found_same_below (λ i. cond {A = Option MarkFlaw} (is_unbound bound (mark_at ms i)) (Some (EarlyEntry i)) None) (early_flaw p ms)
    (length ms)
    (λ i h. ap (λ (b : Bool). cond {A = Option MarkFlaw} b (Some (EarlyEntry i)) None)
    (unbound_is p (length p.cells) bound (mark_at ms i) (subst (AreBound p (length p.cells)) (sym c.as_slice.ensures.value) c.in-Ok.ensures)
    (c.requires.known i h)))
