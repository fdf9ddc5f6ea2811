use Rattle.std.proofs.Common.{◌<◌, ◌∙◌, length, subst, sym, ap, arith, get_or}
use Rattle.std.proofs.lemmas.List.{length-map}
use Rattle.ptl_types.specs.declared.steps.LocalStep.TheVariants.{Start}
use Rattle.cuts.specs.orders.Taking.{IsNext, listed}
use Rattle.worlds.specs.World.{histories_in}
use Rattle.order_check.specs.Listing.{lists_of}
use Rattle.order_check.proofs.Looking.{next_at}
use Rattle.order_check.proofs.taking.next_listed.Goals as goal

pub returns-then-place-steps : goal.returns-then-place-steps
returns-then-place-steps c =
    let w = histories_in c.args.world.now in
    let lists = lists_of c.args.orders.now in
    let steps = c.steps-steps.ensures.value in
    let made = ap length c.history-place.ensures ∙ length-map (w c.args.r) listed in
    let short : length (w c.args.r) < length (lists c.args.r) =
    let h = ap length steps in
    let p = c.if-place-steps.true in
    omega (arith, h, p, made) in
    subst (λ l. IsNext lists w c.args.r (get_or l (length c.history-place.result.now) Start)) (sym steps)
    (subst (λ n. IsNext lists w c.args.r (get_or (lists c.args.r) n Start)) (sym made)
    (next_at lists w c.args.r Start c.requires.listed short))
