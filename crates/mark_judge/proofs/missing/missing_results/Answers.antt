-- The first buffer of which a result has no line.
use Rattle.std.proofs.Common.{ℕ, Option, ◌∙◌, ap, sym}
use Rattle.coll_shape.specs.Outline.{Outline, buffer_at}
use Rattle.mark_judge.specs.declared.flaw.Due.{Due}
use Rattle.mark_judge.specs.declared.flaw.Due.TheVariants.{Result}
use Rattle.mark_judge.specs.declared.flaw.MarkFlaw.{MarkFlaw}
use Rattle.mark_judge.specs.Judged.{missing}
use Rattle.mark_judge.specs.Tables.{has}
use Rattle.plan_judge.specs.Causes.{first_found}
use Rattle.mark_judge.proofs.Finds.{found_here, none_in_all, none_more}
use Rattle.std.proofs.Common.{Bool}
use Rattle.mark_judge.proofs.missing.missing_results.Goals as goal

abbrev missing_of : Outline → (Due → Bool) → ℕ → Option MarkFlaw
missing_of o named b = first_found (λ r. missing named (Result b r)) (buffer_at o b).spread.holders

pub returns-then-is_some : goal.returns-then-is_some
returns-then-is_some c =
    let items = c.prints-b-items.result.now in
    found_here (missing_of c.args.shape.now (has c.args.named.now)) items c.loop-b.b-index 0 _ c.loop-b-test.true c.missing_of-flaw.ensures
    (sym c.is_some.ensures ∙ c.if-is_some.true) c.loop-b.invariant
    ∙ ap (first_found (missing_of c.args.shape.now (has c.args.named.now))) c.prints-b-items.ensures.value

pub loop-b-preserved : goal.loop-b-preserved
loop-b-preserved c =
    none_more (missing_of c.args.shape.now (has c.args.named.now)) c.prints-b-items.result.now c.loop-b.b-index 0 _ c.loop-b-test.true
    c.missing_of-flaw.ensures (sym c.is_some.ensures ∙ c.if-is_some.false) c.loop-b.invariant

pub returns : goal.returns
returns c =
    none_in_all (missing_of c.args.shape.now (has c.args.named.now)) c.prints-b-items.result.now c.loop-b.b-index c.loop-b-test.false
    c.loop-b.invariant
    ∙ ap (first_found (missing_of c.args.shape.now (has c.args.named.now))) c.prints-b-items.ensures.value
