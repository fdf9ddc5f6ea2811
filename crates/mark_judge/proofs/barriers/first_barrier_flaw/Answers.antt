-- One after the other.
use Rattle.std.proofs.Common.{◌≡◌, length, sym, ◌∙◌}
use Rattle.std.proofs.lemmas.Result.{IfOk-weaker}
use Rattle.number_lists.specs.Numbers.{from_to}
use Rattle.mark_judge.specs.Judged.{barriers_flaw, early_flaw, open_flaw}
use Rattle.plan_judge.specs.Causes.{first_found}
use Rattle.plan_judge.proofs.Rows.{clear_or, some_none, some_or}
use Rattle.mark_judge.proofs.barriers.first_barrier_flaw.Goals as goal

pub returns-then-is_some : goal.returns-then-is_some
returns-then-is_some c =
    let p = c.args.plan.now in
    let ms = c.args.marks.now in
    let early = c.in_ok-early.ensures in
    early ∙ sym (some_or (first_found (early_flaw p ms) (from_to 0 (length ms))) (first_found (open_flaw p ms) (from_to 0 (length ms)))
    (rw early at (sym c.is_some.ensures ∙ c.if-is_some.true)))

pub returns : goal.returns
returns c =
    let p = c.args.plan.now in
    let ms = c.args.marks.now in
    let none = some_none c.in_ok-early.early (sym c.is_some.ensures ∙ c.if-is_some.false) in
    IfOk-weaker c.first_open_flaw.result (λ flaw. flaw ≡ first_found (open_flaw p ms) (from_to 0 (length ms)))
    (λ flaw. flaw ≡ barriers_flaw p ms)
    (λ flaw e. e ∙ sym (clear_or (first_found (early_flaw p ms) (from_to 0 (length ms)))
    (first_found (open_flaw p ms) (from_to 0 (length ms))) (sym c.in_ok-early.ensures ∙ none)))
    c.first_open_flaw.ensures
