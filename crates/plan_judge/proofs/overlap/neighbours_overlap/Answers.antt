-- Neighbours tell.
use Rattle.std.proofs.Common.{◌∙◌, sym, arith}
use Rattle.std.proofs.lemmas.Bool.{ltb-true}
use Rattle.plan_judge.proofs.Overlaps.{follow_clear, within_overlaps}
use Rattle.plan_judge.proofs.overlap.neighbours_overlap.Goals as goal

pub returns-then-begins_within : goal.returns-then-begins_within
returns-then-begins_within c =
    let t = c.loop-place-test.true in
    let f = ltb-true _ _ (sym c.begins_within.ensures ∙ c.if-begins_within.true) in
    sym (within_overlaps c.args.parts.now c.loop-place.place (0, 0) c.requires (omega arith) (omega (arith, t)) f)

pub returns : goal.returns
returns c =
    let t = c.loop-place-test.false in
    sym (follow_clear c.args.parts.now (λ k d a b. c.loop-place.invariant k d a (omega (arith, t, b))))
