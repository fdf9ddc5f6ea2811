-- One step more in each turn.
use Rattle.std.proofs.Common.{ℕ, List, ◌+◌, ◌++◌, ◌∙◌, ap, ap₂, sym, arith}
use Rattle.given_lines.specs.declared.given.Mark.{Mark}
use Rattle.schedule_compiler.specs.declared.shapes.footprints.Size.{Size}
use Rattle.schedule_compiler.proofs.shapes.Counting.{size-more}
use Rattle.marked_plans.specs.Marks.{step_marks}
use Rattle.marked_plans.proofs.Rows.{one_row_more}
use Rattle.marked_plans.proofs.barriers.mark_barriers.Goals as goal

pub loop-k-preserved : goal.loop-k-preserved
loop-k-preserved c =
    let o = c.args.shape.now in
    let k = c.loop-k.k in
    let before = c.loop-k.invariant in
    let more = c.links_in-links.ensures in
    let most = before.at_most in
    let one = more.at_most in
    record {
      links = ap₂ (λ (a b : ℕ). a + b) before.links more.value ∙ sym (ap (λ (s : Size). s.links) (size-more o k));
      at_most = omega (arith, most, one);
      marks =
          c.in_ok-mark_step.ensures
          ∙ ap (λ (ms : List Mark). ms ++ step_marks o k) before.marks
          ∙ one_row_more (step_marks o) c.args.marks.now.items k;
    }
