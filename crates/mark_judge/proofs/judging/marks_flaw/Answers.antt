-- What is found first.
use Rattle.std.proofs.Common.{Bool, Option, ◌≡◌, List, length, ap, ◌∙◌, sym}
use Rattle.std.proofs.lemmas.Result.{IfOk-weaker}
use Rattle.std.proofs.Math.Path.{fun_ext}
use Rattle.number_lists.specs.Numbers.{from_to}
use Rattle.coll_shape.specs.Outline.{Outline}
use Rattle.given_lines.specs.declared.given.Mark.{Mark}
use Rattle.mark_judge.specs.declared.flaw.MarkFlaw.{MarkFlaw}
use Rattle.mark_judge.specs.Due.{is_named}
use Rattle.mark_judge.specs.Judged.{barriers_flaw, line_flaw, marks_flaw, missing_barriers, missing_results}
use Rattle.mark_judge.specs.Tables.{AreNamed, has}
use Rattle.mark_judge.proofs.Finds.{at_fourth, at_second, at_third}
use Rattle.mark_judge.proofs.Right.{all_known}
use Rattle.plan_core.specs.Plan.{Plan}
use Rattle.plan_judge.specs.Causes.{first_found}
use Rattle.plan_judge.proofs.Rows.{some_none}
use Rattle.mark_judge.proofs.judging.marks_flaw.Goals as goal

-- the four of them
abbrev by_line : Plan → Outline → List Mark → Option MarkFlaw
by_line p o ms = first_found (line_flaw p o ms) (from_to 0 (length ms))

abbrev by_barrier : Plan → List Mark → Option MarkFlaw
by_barrier p ms = barriers_flaw p ms

-- by the table or by the lines
results_by : (o : Outline) (ms : List Mark) (named words : List Bool) → words ≡ named → AreNamed ms named
    → missing_results o (has words) ≡ missing_results o (is_named ms)
results_by o ms named words is told =
    ap (λ (xs : List Bool). missing_results o (has xs)) is ∙ ap (missing_results o) (fun_ext told)

barriers_by : (o : Outline) (ms : List Mark) (named words : List Bool) → words ≡ named → AreNamed ms named
    → missing_barriers o (has words) ≡ missing_barriers o (is_named ms)
barriers_by o ms named words is told =
    ap (λ (xs : List Bool). missing_barriers o (has xs)) is ∙ ap (missing_barriers o) (fun_ext told)

pub returns-then-is_some-2 : goal.returns-then-is_some-2
returns-then-is_some-2 c =
    let p = c.args.plan.now in
    let o = c.args.shape.now in
    let ms = c.args.marks.now in
    let clear = some_none c.first_line_flaw-line.result (sym c.is_some.ensures ∙ c.if-is_some.false) in
    at_second (by_line p o ms) (missing_results o (is_named ms)) (missing_barriers o (is_named ms)) (by_barrier p ms)
    c.missing_results-result.result
    (sym c.first_line_flaw-line.ensures.flaw ∙ clear)
    (c.missing_results-result.ensures
    ∙ results_by o ms c.first_line_flaw-line.new.named.items c.as_slice.result.now c.as_slice.ensures.value
    (c.first_line_flaw-line.ensures.named clear))
    (sym c.is_some-2.ensures ∙ c.if-is_some-2.true)

pub returns-then-is_some-3 : goal.returns-then-is_some-3
returns-then-is_some-3 c =
    let p = c.args.plan.now in
    let o = c.args.shape.now in
    let ms = c.args.marks.now in
    let named = c.first_line_flaw-line.new.named.items in
    let clear = some_none c.first_line_flaw-line.result (sym c.is_some.ensures ∙ c.if-is_some.false) in
    let told = c.first_line_flaw-line.ensures.named clear in
    let results = some_none c.missing_results-result.result (sym c.is_some-2.ensures ∙ c.if-is_some-2.false) in
    at_third (by_line p o ms) (missing_results o (is_named ms)) (missing_barriers o (is_named ms)) (by_barrier p ms)
    c.missing_barriers-barrier.result
    (sym c.first_line_flaw-line.ensures.flaw ∙ clear)
    (sym (results_by o ms named c.as_slice.result.now c.as_slice.ensures.value told) ∙ sym c.missing_results-result.ensures ∙ results)
    (c.missing_barriers-barrier.ensures ∙ barriers_by o ms named c.as_slice-2.result.now c.as_slice-2.ensures.value told)
    (sym c.is_some-3.ensures ∙ c.if-is_some-3.true)

pub first_barrier_flaw-requires-clause-known : goal.first_barrier_flaw-requires-clause-known
first_barrier_flaw-requires-clause-known c =
    all_known c.args.plan.now c.args.shape.now c.args.marks.now
    (sym c.first_line_flaw-line.ensures.flaw
    ∙ some_none c.first_line_flaw-line.result (sym c.is_some.ensures ∙ c.if-is_some.false))

pub returns : goal.returns
returns c =
    let p = c.args.plan.now in
    let o = c.args.shape.now in
    let ms = c.args.marks.now in
    let named = c.first_line_flaw-line.new.named.items in
    let clear = some_none c.first_line_flaw-line.result (sym c.is_some.ensures ∙ c.if-is_some.false) in
    let told = c.first_line_flaw-line.ensures.named clear in
    let results = some_none c.missing_results-result.result (sym c.is_some-2.ensures ∙ c.if-is_some-2.false) in
    let barriers = some_none c.missing_barriers-barrier.result (sym c.is_some-3.ensures ∙ c.if-is_some-3.false) in
    IfOk-weaker c.first_barrier_flaw.result (λ flaw. flaw ≡ by_barrier p ms) (λ flaw. flaw ≡ marks_flaw p o ms)
    (λ flaw e. e ∙ at_fourth (by_line p o ms) (missing_results o (is_named ms)) (missing_barriers o (is_named ms)) (by_barrier p ms)
    (sym c.first_line_flaw-line.ensures.flaw ∙ clear)
    (sym (results_by o ms named c.as_slice.result.now c.as_slice.ensures.value told) ∙ sym c.missing_results-result.ensures ∙ results)
    (sym (barriers_by o ms named c.as_slice-2.result.now c.as_slice-2.ensures.value told) ∙ sym c.missing_barriers-barrier.ensures
    ∙ barriers))
    c.first_barrier_flaw.ensures
