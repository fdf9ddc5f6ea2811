use Rattle.std.proofs.Common.{◌≡◌, ◌∷◌, ◌+◌, sym, ap, ◌∙◌, arith}
use Rattle.coll_text.specs.Text.{lines}
use Rattle.order_lines.proofs.Lines.{ends, fails_at, left_over, takes}
use Rattle.order_lines.proofs.reading.orders_in.Goals as goal

pub returns-in-Err : goal.returns-in-Err
returns-in-Err c =
    let cut : lines c.loop-r.rest.now ≡ c.cut.result.0.now ∷ lines c.in_default-Some.after.now =
    rw c.in_default-Some.is-1 at c.cut.ensures.parts in
    rw (c.loop-r.invariant.judged, cut)
    (fails_at c.args.ranks c.loop-r.r c.loop-r.number c.loop-r.lists.items c.cut.result.0.now c.in_default-Some.after.now c.in-Err.fault
    c.loop-r-test.true c.in-Err.ensures)

pub returns-then-is_empty : goal.returns-then-is_empty
returns-then-is_empty c =
    let empty = sym c.is_empty.ensures ∙ c.if-is_empty.true in
    rw c.of.ensures
    (c.loop-r.invariant.judged
    ∙ rw empty at (ends c.args.ranks c.loop-r.r c.loop-r.number c.loop-r.lists.items c.loop-r.rest.now c.loop-r-test.false))

pub returns-else-is_empty : goal.returns-else-is_empty
returns-else-is_empty c =
    let full = sym c.is_empty.ensures ∙ c.if-is_empty.false in
    rw c.refused-else-is_empty.ensures
    (c.loop-r.invariant.judged
    ∙ rw full at (ends c.args.ranks c.loop-r.r c.loop-r.number c.loop-r.lists.items c.loop-r.rest.now c.loop-r-test.false))

pub loop-r-preserved : goal.loop-r-preserved
loop-r-preserved c =
    let line = c.cut.result.0.now in
    let after = c.in_default-Some.after.now in
    let lists = c.loop-r.lists.items in
    let cut : lines c.loop-r.rest.now ≡ line ∷ lines after = rw c.in_default-Some.is-1 at c.cut.ensures.parts in
    let shorter = rw c.in_default-Some.is-1 at c.cut.ensures.shorter in
    rw c.in_default-Some.is-1 record {
      judged = c.loop-r.invariant.judged ∙ ap (left_over c.args.ranks c.loop-r.r c.loop-r.number lists) cut
          ∙ takes c.args.ranks c.loop-r.r c.loop-r.number lists line after c.in-Ok.order c.loop-r-test.true c.in-Ok.ensures
          ∙ ap (λ v. left_over c.args.ranks (c.loop-r.r + 1) (c.loop-r.number + 1) v (lines after)) (sym c.in_ok-push-in-Ok.ensures.items);
      at_most = (let f = c.loop-r.invariant.at_most in omega (arith, f, shorter));
    }
