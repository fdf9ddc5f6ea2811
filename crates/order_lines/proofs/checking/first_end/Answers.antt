use Rattle.std.proofs.Common.{◌≡◌, ◌-◌, ◌∷◌, ◌∙◌, length, sym, arith}
use Rattle.coll_text.specs.Text.{lines}
use Rattle.order_lines.proofs.Ends.{cut_long, goes_on, stops}
use Rattle.order_lines.proofs.checking.first_end.Goals as goal

pub returns-then-is-clause-bytes : goal.returns-then-is-clause-bytes
returns-then-is-clause-bytes c =
    let text = c.args.bytes.now in
    let after = c.in_default-Some.after.now in
    let cut : lines c.loop-line.rest.now ≡ c.cut.result.0.now ∷ lines after = rw c.in_default-Some.is-1 at c.cut.ensures.parts in
    let long = cut_long c.loop-line.rest.now c.cut.result.0.now after cut in
    let within = c.loop-line.invariant.within in
    rw c.in_default-Some.is-1
    (stops text c.loop-line.rest.now c.cut.result.0.now after c.loop-line.number (length text - length after) c.loop-line.invariant cut
    (sym c.is.ensures.value ∙ c.if-is.true) (omega (arith, long, within))).front

pub returns-then-is-clause-line : goal.returns-then-is-clause-line
returns-then-is-clause-line c =
    let text = c.args.bytes.now in
    let after = c.in_default-Some.after.now in
    let cut : lines c.loop-line.rest.now ≡ c.cut.result.0.now ∷ lines after = rw c.in_default-Some.is-1 at c.cut.ensures.parts in
    let long = cut_long c.loop-line.rest.now c.cut.result.0.now after cut in
    let within = c.loop-line.invariant.within in
    (stops text c.loop-line.rest.now c.cut.result.0.now after c.loop-line.number (length text - length after) c.loop-line.invariant cut
    (sym c.is.ensures.value ∙ c.if-is.true) (omega (arith, long, within))).next

pub loop-line-preserved : goal.loop-line-preserved
loop-line-preserved c =
    let cut : lines c.loop-line.rest.now ≡ c.cut.result.0.now ∷ lines c.in_default-Some.after.now =
    rw c.in_default-Some.is-1 at c.cut.ensures.parts in
    rw c.in_default-Some.is-1
    (goes_on c.args.bytes.now c.loop-line.rest.now c.cut.result.0.now c.in_default-Some.after.now c.loop-line.number c.loop-line.invariant
    cut (sym c.is.ensures.value ∙ c.if-is.false))
