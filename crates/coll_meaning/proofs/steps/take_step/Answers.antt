use Rattle.std.proofs.Common.{◌≡◌, ℕ, List, true, ap, sym, subst, ◌∙◌}
use Rattle.ptl_types.specs.declared.elements.ElemType.{ElemType}
use Rattle.coll_shape.specs.declared.types.CollStep.{CollStep}
use Rattle.coll_shape.specs.Collectives.{source_of}
use Rattle.coll_shape.specs.Meaning.{lists_of, made_lists, type_read}
use Rattle.coll_meaning.specs.Needed.{is_needed}
use Rattle.coll_meaning.specs.Steps.{later}
use Rattle.coll_meaning.proofs.There.{is_made}
use Rattle.coll_meaning.proofs.steps.take_step.Goals as goal

same_made : (n n' : ℕ) (g g' : List ℕ) (ty ty' : ElemType) (step step' : CollStep) (lists : List (List ℕ)) → n ≡ n' → g ≡ g' → ty ≡ ty' →
    step ≡ step'
    → made_lists n g ty step lists ≡ made_lists n' g' ty' step' lists
same_made n n' g g' ty ty' step step' lists a b c d =
    ap (λ v. made_lists v g ty step lists) a ∙ ap (λ v. made_lists n' v ty step lists) b
    ∙ ap (λ v. made_lists n' g' v step lists) c ∙ ap (λ v. made_lists n' g' ty' v lists) d

pub returns : goal.returns
returns c =
    is_made c.args.shape.now c.args.kept.now c.args.k c.in-Some.a c.args.held.now c.keep_if_needed.new.held c.push.new.self
    c.in_ok-made.made
    (ap source_of (sym c.step_at-step.ensures) ∙ sym c.in-Some.ensures)
    c.keep_if_needed.ensures.many
    (λ b need. c.keep_if_needed.ensures.others b (subst (λ v. is_needed c.args.kept.now v b ≡ true) (sym c.later-after.ensures) need))
    c.in_ok-push.ensures
    (λ need.
    c.in_ok-made.ensures (c.is_needed-needed.ensures ∙ ap (λ v. is_needed c.args.kept.now v c.count.result) c.later-after.ensures
    ∙ ap (is_needed c.args.kept.now (later c.args.shape.now c.args.k)) c.count.ensures.value ∙ need)
    ∙ same_made _ _ _ _ _ _ _ _ (lists_of c.args.held.now c.in-Some.a) c.ranks-ranks.ensures.value c.group.ensures.value
    (c.type_read-ty.ensures ∙ ap (type_read c.args.shape.now) c.step_at-step.ensures) c.step_at-step.ensures)
