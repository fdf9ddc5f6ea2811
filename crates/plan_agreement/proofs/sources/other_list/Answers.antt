-- Both plans are sound.
use Rattle.std.proofs.Common.{◌+◌, ◌<◌, ◌^◌, ◌-◌, length, sym, subst}
use Rattle.plan_core.specs.Plan.{Plan}
use Rattle.plan_agreement.proofs.Lists.{own_fit}
use Rattle.plan_agreement.proofs.sources.other_list.Goals as goal

pub sources_of-requires : goal.sources_of-requires
sources_of-requires c =
    subst (λ (p : Plan). length p.cells + length p.links < 2 ^ 32 - 1) (sym c.requires.plan)
    (own_fit c.args.shape.now c.recall_form.ensures.shape c.requires.accepted).sound.few_together

pub sources_of-requires-2 : goal.sources_of-requires-2
sources_of-requires-2 c = c.requires.fits.sound.few_together
