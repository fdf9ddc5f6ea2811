use Rattle.std.proofs.Common.{ℕ, ◌∙◌, ap, subst, sym}
use Rattle.coll_shape.specs.Outline.{Outline}
use Rattle.plan_core.specs.Plan.{Plan}
use Rattle.text_notes.specs.Places.{Stands, line_at}
use Rattle.text_notes.proofs.Checks.{short_check}
use Rattle.given_top.proofs.Beside.{orders_tells, refused_tells, unlike_tells}
use Rattle.given_top.proofs.Checks.{orders_read, orders_unlike, told}
use Rattle.given_top.proofs.checking.answer_orders.Goals as goal

pub answer_ordered-requires-clause-short : goal.answer_ordered-requires-clause-short
answer_ordered-requires-clause-short g c = short_check _ _ c.in-Ok.ensures.exact

pub returns-then-ranks : goal.returns-then-ranks
returns-then-ranks g c =
    let count =
    c.in-Ok.ensures.orders
    ∙ (sym (ap (λ (o : Outline). o.ranks) c.shape.ensures.shape)
    ∙ (sym c.ranks.ensures.value ∙ (c.if-ranks.true ∙ (c.ranks-in-Ok.ensures ∙ ap (λ (p : Plan). p.ranks) c.plan.ensures)))) in
    record {
      checks = orders_read _ c.args.found _ _ _ _ _ _ c.in-Ok.ensures.exact count c.answer_ordered.ensures.checks;
      told = orders_tells _ _ _ _ _ _ _ _ _ c.in-Ok.ensures.exact count c.answer_ordered.ensures.told;
    }

pub returns-in-Ok : goal.returns-in-Ok
returns-in-Ok g c =
    let plan = c.ranks-in-Ok.ensures ∙ ap (λ (p : Plan). p.ranks) c.plan.ensures in
    let shape = sym (ap (λ (o : Outline). o.ranks) c.shape.ensures.shape) ∙ sym c.ranks.ensures.value in
    record {
      checks = orders_unlike _ c.args.found _ _ _ _ _ _ c.in-Ok.ensures.exact
          (λ same. c.if-ranks.false (sym (c.in-Ok.ensures.orders ∙ shape) ∙ (same ∙ sym plan))) c.answer_refused.ensures;
      told = unlike_tells _ _ _ _ _ _ _ _ _ c.in-Ok.ensures.exact
          (λ same. c.if-ranks.false (sym (c.in-Ok.ensures.orders ∙ shape) ∙ (same ∙ sym plan))) c.words_note.ensures;
    }

pub returns-in-Err-Refused : goal.returns-in-Err-Refused
returns-in-Err-Refused g c = record {
  checks = rw (rw c.in-Err-Refused.field-0-is at c.in-Err-Refused.ensures.exact)
      (told _ _ _ _ (rw c.whole_line.ensures at c.answer_refused-in-Err-Refused.ensures));
  told = refused_tells _ _ _ _ _ _ _ _ _ _ (rw c.in-Err-Refused.field-0-is at c.in-Err-Refused.ensures.exact)
      (record {
        note = c.explain_text.result;
        line = c.explain_text.ensures.line;
        about = c.explain_text.ensures.name;
        path = c.explain_text.ensures.path;
        found = subst (λ (n : ℕ). Stands (line_at c.args.text.text.now n) c.explain_text.result) (sym c.explain_text.ensures.line)
            c.explain_text.ensures.stands;
        shown = c.moved.ensures;
      });
}
