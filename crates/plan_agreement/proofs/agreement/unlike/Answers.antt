-- Both plans are evaluated over one table.
use Rattle.std.proofs.Common.{ℕ, ◌+◌, ◌<◌, ◌^◌, ◌∙◌, ◌-◌, ◌*◌, length, refl, ap, sym, subst}
use Rattle.plan_core.specs.Plan.{Plan, link}
use Rattle.plan_agreement.specs.Evaluated.{CutAlike}
use Rattle.plan_agreement.proofs.Lists.{own_fit}
use Rattle.plan_agreement.proofs.Meant.{compared, first_meant}
use Rattle.plan_agreement.proofs.agreement.unlike.Goals as goal

pub cut_places-requires-clause-few : goal.cut_places-requires-clause-few
cut_places-requires-clause-few c =
    subst (λ (p : Plan). length p.cells < 2 ^ 24) (sym c.requires.plan)
    (own_fit c.args.shape.now c.recall_form.ensures.shape c.requires.accepted).sound.few_cells

pub cut_places-requires-clause-together : goal.cut_places-requires-clause-together
cut_places-requires-clause-together c =
    subst (λ (p : Plan). length p.cells + length p.links < 2 ^ 32 - 1) (sym c.requires.plan)
    (own_fit c.args.shape.now c.recall_form.ensures.shape c.requires.accepted).sound.few_together

pub cut_places-requires-clause-targets : goal.cut_places-requires-clause-targets
cut_places-requires-clause-targets c =
    subst (λ (p : Plan). (l : ℕ) → l < length p.links → (link p l).target < length p.cells) (sym c.requires.plan)
    (λ l h. ((own_fit c.args.shape.now c.recall_form.ensures.shape c.requires.accepted).sound.links_sound l h).cells)

pub cut_places-requires-clause-ranks : goal.cut_places-requires-clause-ranks
cut_places-requires-clause-ranks c =
    c.in_ok-terms.ensures ∙ c.ranks-ranks.ensures.value
    ∙ sym (ap (λ (p : Plan). p.ranks) c.requires.plan
    ∙ (own_fit c.args.shape.now c.recall_form.ensures.shape c.requires.accepted).ranks)

pub cut_places-requires-2-clause-few : goal.cut_places-requires-2-clause-few
cut_places-requires-2-clause-few c = c.requires.fits.sound.few_cells

pub cut_places-requires-2-clause-together : goal.cut_places-requires-2-clause-together
cut_places-requires-2-clause-together c = c.requires.fits.sound.few_together

pub cut_places-requires-2-clause-targets : goal.cut_places-requires-2-clause-targets
cut_places-requires-2-clause-targets c = λ l h. (c.requires.fits.sound.links_sound l h).cells

pub cut_places-requires-2-clause-ranks : goal.cut_places-requires-2-clause-ranks
cut_places-requires-2-clause-ranks c =
    c.cut_places.ensures.keeps.ranks ∙ c.in_ok-terms.ensures ∙ c.ranks-ranks.ensures.value ∙ sym c.requires.fits.ranks

pub returns : goal.returns
returns c =
    let p = c.args.plan.now in
    let o = c.args.shape.now in
    let ms = c.args.marks.now in
    let given = c.in_ok-given.given in
    let own = c.in_ok-own.own in
    let count = c.input_count-count.result in
    let v = c.cut_places-2.new.terms in
    let own_for = own_fit o c.recall_form.ensures.shape c.requires.accepted in
    let alike : CutAlike given own o.ranks (o.inputs * o.ranks) =
    subst (λ n. CutAlike given own n (o.inputs * o.ranks)) c.ranks-ranks.ensures.value
    (subst (λ n. CutAlike given own c.ranks-ranks.result n) c.list_count-lists.ensures
    (c.are_inputs_alike.ensures c.if-not-are_inputs_alike.false))
    in
    let both = compared p o c.args.drawn.now.plan count c.in_ok-terms.terms c.cut_places.new.terms v given own
    c.recall_form.ensures.shape c.input_count-count.ensures.value (c.in_ok-terms.ensures ∙ c.ranks-ranks.ensures.value) c.requires.plan
    c.cut_places.ensures.keeps c.cut_places-2.ensures.keeps c.in_ok-own.ensures.are c.in_ok-given.ensures.are own_for alike
    c.are_solved.ensures in
    first_meant p o count v given own c.recall_form.ensures.shape c.requires.fits both ms (length ms) refl c.first_unlike.result
    c.first_unlike.ensures
