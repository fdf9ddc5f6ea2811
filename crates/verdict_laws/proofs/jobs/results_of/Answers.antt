use Rattle.std.proofs.Common.{◌<◌, ◌+◌, ◌∙◌, ap, drop, subst, sym}
use Rattle.given_lines.specs.declared.given.Mark.{Mark}
use Rattle.given_lines.specs.declared.given.Mark.TheVariants.{Result}
use Rattle.mark_judge.proofs.Tests.{In-get_or}
use Rattle.plan_core.specs.Draw.{HeldCells}
use Rattle.plan_core.specs.Members.{In}
use Rattle.verdict_laws.specs.GivenJobs.{named_cells}
use Rattle.verdict_laws.proofs.jobs.Naming.{buffers-left, enter-next, leave-next, none-left, ranks-left, result-next}
use Rattle.verdict_laws.proofs.jobs.results_of.Goals as goal
use Rattle.verdict_laws.proofs.jobs.results_of.Goals.{in-Result, in-Enter, in-Leave}

pub set-requires-clause-buffer : goal.set-requires-clause-buffer
set-requires-clause-buffer c =
    let ms = c.args.marks.now in
    let held = subst (λ (m : Mark). In m ms) c.in-Result.is (In-get_or ms c.loop-i.i (Result 0 0 0) c.loop-i-test.true) in
    let same = buffers-left c.loop-i.held c.args.shape.now ms (drop c.loop-i.i ms) c.loop-i.invariant in
    subst (λ n. c.in-Result.buffer < n) (sym same) (c.requires c.in-Result.buffer c.in-Result.rank c.in-Result.cell held).0

pub set-requires-clause-rank : goal.set-requires-clause-rank
set-requires-clause-rank c =
    let ms = c.args.marks.now in
    let held = subst (λ (m : Mark). In m ms) c.in-Result.is (In-get_or ms c.loop-i.i (Result 0 0 0) c.loop-i-test.true) in
    let same = ranks-left c.loop-i.held c.args.shape.now ms (drop c.loop-i.i ms) c.loop-i.invariant in
    subst (λ n. c.in-Result.rank < n) (sym same) (c.requires c.in-Result.buffer c.in-Result.rank c.in-Result.cell held).1

pub loop-i-preserved : goal.loop-i-preserved
loop-i-preserved c =
    let ms = c.args.marks.now in
    let i = c.loop-i.i in
    elim c.match-marks-i.branch [
      | in-Result w ↦
          ap (λ (h : HeldCells). named_cells h (drop (i + 1) ms)) (w.held-is ∙ w.set.ensures)
          ∙ (sym (result-next c.loop-i.held ms i w.in-Result.buffer w.in-Result.rank w.in-Result.cell c.loop-i-test.true w.in-Result.is)
          ∙ c.loop-i.invariant)
      | in-Enter w ↦
          ap (λ (h : HeldCells). named_cells h (drop (i + 1) ms)) w.held-is
          ∙ (sym (enter-next c.loop-i.held ms i w.in-Enter.step w.in-Enter.rank w.in-Enter.cell c.loop-i-test.true w.in-Enter.is)
          ∙ c.loop-i.invariant)
      | in-Leave w ↦
          ap (λ (h : HeldCells). named_cells h (drop (i + 1) ms)) w.held-is
          ∙ (sym (leave-next c.loop-i.held ms i w.in-Leave.step w.in-Leave.rank w.in-Leave.cell c.loop-i-test.true w.in-Leave.is)
          ∙ c.loop-i.invariant)
    ]

pub returns : goal.returns
returns c =
    sym (none-left c.loop-i.held c.args.marks.now c.loop-i.i c.loop-i-test.false) ∙ c.loop-i.invariant
