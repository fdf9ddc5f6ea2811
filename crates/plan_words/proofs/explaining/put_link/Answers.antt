use Rattle.std.proofs.Common.{◌≡◌, ap, sym, ◌∙◌}
use Rattle.plan_core.specs.declared.Link.{Link}
use Rattle.plan_core.specs.declared.LinkKind.TheVariants.{Bump}
use Rattle.plan_core.specs.Plan.{link}
use Rattle.plan_words.proofs.explaining.put_link.Goals as goal

pub returns-in-Bump : goal.returns-in-Bump
returns-in-Bump g c =
    let kind : (link c.args.text.now.plan.now c.args.l).kind ≡ Bump =
    sym (ap (λ (l : Link). l.kind) c.link_of-link.ensures) ∙ c.in-Bump.is in
    rw kind c.put_bump.ensures
