-- By entries instead of lines.
use Rattle.std.proofs.Common.{[], ◌||◌, ◌≡◌, length, ap, ◌∙◌, sym, arith}
use Rattle.std.specs.List.{list_any}
use Rattle.std.proofs.lemmas.Bool.{eqb-true}
use Rattle.std.proofs.lemmas.List.{nil_from_length}
use Rattle.mark_judge.specs.Due.{mark_at}
use Rattle.mark_judge.specs.Tables.{does_miss}
use Rattle.mark_judge.proofs.Opening.{open_is}
use Rattle.mark_judge.proofs.barriers.open_lines.Goals as goal

pub returns-then-is_empty-clause-unmet : goal.returns-then-is_empty-clause-unmet
returns-then-is_empty-clause-unmet c = λ i h.
    let p = c.args.plan.now in
    let ms = c.args.marks.now in
    let entries = c.as_slice-entries.result.now in
    let none : entries ≡ [] = nil_from_length entries (eqb-true (length entries) 0 (sym c.is_empty.ensures ∙ c.if-is_empty.true)) in
    c.in_ok-unmet.ensures.none i (omega (arith, h))
    ∙ ap (list_any (does_miss p (mark_at ms i))) (sym none ∙ c.as_slice-entries.ensures.value ∙ c.in_ok-list.ensures)
    ∙ open_is p ms (mark_at ms i)

pub returns-clause-unmet : goal.returns-clause-unmet
returns-clause-unmet c = λ i h.
    let p = c.args.plan.now in
    let ms = c.args.marks.now in
    c.in_ok-note_entries.ensures.noted i h
    ∙ ap (λ t. t || list_any (does_miss p (mark_at ms i)) c.as_slice-entries.result.now) (c.in_ok-unmet.ensures.none i (omega (arith, h)))
    ∙ ap (list_any (does_miss p (mark_at ms i))) (c.as_slice-entries.ensures.value ∙ c.in_ok-list.ensures)
    ∙ open_is p ms (mark_at ms i)
