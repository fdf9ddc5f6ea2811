use Rattle.std.proofs.Common.{ℕ, ◌≡◌, List, [], ◌∷◌, ◌++◌, ◌∙◌, ap, sym, map}
use Rattle.number_lists.specs.Numbers.{from_to}
use Rattle.plan_core.specs.declared.Cell.{Cell}
use Rattle.plan_core.specs.Plan.{cell}
use Rattle.plan_core.proofs.Drawing.{row-more}
use Rattle.plan_slices.specs.declared.cut.Cut.{Cut}
use Rattle.plan_slices.specs.Slices.{cut_at, sliced_cell}
use Rattle.plan_slices.proofs.slicing.sliced_cells.Goals as goal

pub loop-c-preserved : goal.loop-c-preserved
loop-c-preserved c =
    let f : ℕ → Cell = λ n. sliced_cell (cut_at c.args.cuts.now n) (cell c.args.plan.now n) in
    let value : c.sliced_cell.result ≡ f c.loop-c.c = c.sliced_cell.ensures
    ∙ ap (λ (k : Cut). sliced_cell k c.cell_at.result) c.cut_at.ensures
    ∙ ap (λ (x : Cell). sliced_cell (cut_at c.args.cuts.now c.loop-c.c) x) c.cell_at.ensures in
    c.in_ok-push.ensures.items
    ∙ ap (λ (xs : List Cell). xs ++ c.sliced_cell.result ∷ []) c.loop-c.invariant
    ∙ ap (λ (x : Cell). map f (from_to 0 c.loop-c.c) ++ x ∷ []) value
    ∙ sym (row-more f c.loop-c.c)
